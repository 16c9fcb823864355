-- The examples, by computing.
use mathlib.Core.Path.{◌≡◌, refl}
use mathlib.Core.List.{map}
use mathlib.Core.Logic.{inl, inr}
use lib.Dec.{leb→le, lit<}
use borrow.Author.Tests.{eqb-false}
use Rattle.pitch.specs.declared.UpperLag.TheVariants.{Handset}
use Rattle.lag_reader.specs.Opens.{reader_opens}
use Rattle.pitch_search.specs.Opens.{search_opens}
use Rattle.recovery.specs.Runs.{Step, fresh_state, run}
use Rattle.recovery.specs.Statement.{none, WithinWidth, Stray, Each}
use Rattle.recovery.specs.Example.{example, happens, starts, Example, at_120, PlayersExample}
use Rattle.recovery.specs.Previews.{run_calls, tried, shown_first, then_sent, PreviewsExample}
use Rattle.pitch_search.specs.Previews.{preview_of}

events : map (λ (s : Step). s.event) (run (fresh_state Handset) example) ≡ happens
unfolding run example happens search_opens reader_opens
events = refl

window_starts : map (λ (s : Step). (s.after.searcher.start, s.after.reader.start)) (run (fresh_state Handset) example) ≡ starts
unfolding run example starts search_opens reader_opens
window_starts = refl

widths : Each WithinWidth none (run (fresh_state Handset) example)
unfolding run example search_opens reader_opens
widths = (leb→le _ _ tt, (tt, (tt, (leb→le _ _ tt, (tt, (leb→le _ _ tt, (leb→le _ _ tt, (tt, (leb→le _ _ tt, (leb→le _ _ tt, tt))))))))))

strays : Each Stray none (run (fresh_state Handset) example)
unfolding run example search_opens reader_opens
strays = (tt, (inl (eqb-false 3 2 refl), (inr (inl refl, lit< tt), (tt, (tt, (tt, (tt, (tt, (tt, (tt, tt))))))))))

pub exemplified : Example
unfolding Example
exemplified = (events, window_starts, widths, strays)

pub players_exemplified : PlayersExample
unfolding PlayersExample run at_120 search_opens reader_opens
players_exemplified = (refl, refl, (leb→le _ _ tt, (leb→le _ _ tt, (tt, (tt, tt)))), (tt, (tt, (tt, (tt, tt)))))

pub previews_exemplified : PreviewsExample
unfolding PreviewsExample run_calls tried shown_first then_sent preview_of search_opens reader_opens
previews_exemplified = (refl, refl, refl)
