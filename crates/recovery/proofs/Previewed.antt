-- The statement on lists with previews in them.
use mathlib.Core.Path.{◌≡◌, refl, ap, ◌∙◌}
use mathlib.Core.List.{List, [], ◌∷◌, ◌++◌, map}
use Rattle.pitch_search.specs.Previews.{preview_of}
use Rattle.pitch_search.specs.Inputs.{Input}
use Rattle.recovery.specs.Runs.{State, Step, steps, after_all, run}
use Rattle.recovery.specs.Previews.{Call, entry, preview, Seen, stepped, after_preview, run_calls, entries, steps_seen, PreviewsChangeNothing}

as_before : (σ : State) (x : Input) → after_preview σ x ≡ σ
unfolding preview_of
as_before σ x = refl

-- an entry's steps are all seen
all_seen : (ss : List Step) (rest : List Seen) → steps_seen (map stepped ss ++ rest) ≡ ss ++ steps_seen rest
all_seen [] rest = refl
all_seen (s ∷ ss) rest = ap (λ (ts : List Step). s ∷ ts) (all_seen ss rest)

same_steps : (σ : State) (cs : List Call) → steps_seen (run_calls σ cs) ≡ run σ (entries cs)
unfolding run_calls run
same_steps σ [] = refl
same_steps σ (entry e ∷ cs) =
    all_seen (steps σ e) (run_calls (after_all σ (steps σ e)) cs) ∙ ap (λ (ss : List Step). steps σ e ++ ss) (same_steps (after_all σ (steps σ e)) cs)
same_steps σ (preview x ∷ cs) = same_steps (after_preview σ x) cs ∙ ap (λ (τ : State). run τ (entries cs)) (as_before σ x)

pub previews_change_nothing : PreviewsChangeNothing
unfolding PreviewsChangeNothing
previews_change_nothing σ cs = same_steps σ cs
