-- Demand 3's statement and that of the windows' starts are proved by one invariant, kept by every entry: searcher and reader expect the subframe that is due, and
-- before a subframe two or four that follows an intact place they hold the same whole lag.
use mathlib.Core.Path.{◌≡◌, refl, sym, ap, ◌∙◌}
use mathlib.Core.Bool.{Bool, true, false, cond, ◌||◌}
use mathlib.Core.List.{List, [], ◌∷◌, ◌++◌}
use mathlib.Core.Logic.{◌⊎◌, inl, inr}
use Prim.Native.Nat.{ℕ, ◌+◌, ◌%◌, ◌≤◌, ◌<◌}
use native.Mathlib.Omega.{arith}
use lib.Dec.{leb}
use lib.IntN.{ℤ}
use borrow.Author.Tests.{le-leb, eqb-true, leb-true}
use Rattle.fixed.proofs.Clips.{contradiction}
use Rattle.refusal.specs.Refused.{Told, values, refused, accepts}
use Rattle.refusal.specs.Checks.{Outcome}
use Rattle.refusal.proofs.Checkings.{Passes, value_or, failed}
use Rattle.pitch.specs.declared.Subframe.{Subframe}
use Rattle.pitch.specs.declared.Subframe.TheVariants.{One, Two, Three, Four}
use Rattle.pitch.specs.declared.PitchLag.{PitchLag}
use Rattle.lag_reader.specs.declared.Reader.{Reader}
use Rattle.pitch.specs.declared.UpperLag.{UpperLag}
use Rattle.pitch.specs.Kinds.{subframe_number, absolute, following, upper_samples}
use Rattle.pitch.proofs.Uppers.{upper_from_40, upper_to_143}
use Rattle.pitch.specs.Indexes.{lag_of}
use Rattle.lag_reader.specs.Readers.{reset_reader, start_used, read_in, reading_checks, read}
use Rattle.lag_reader.proofs.Readings.{let_through as reading_let_through}
use Rattle.pitch_search.specs.declared.Search.{Search}
use Rattle.pitch_search.specs.declared.SearchedPitch.{SearchedPitch}
use Rattle.pitch_window.specs.Windows.{start_of}
use Rattle.pitch_window.proofs.Sendings.{sent_back}
use Rattle.pitch_search.specs.Searches.{reset_search, accepted}
use Rattle.pitch_search.proofs.Outcomes.{is_expected, through, unchanged}
use Rattle.frame.specs.declared.FramePitches.{FramePitches}
use Rattle.frame.specs.Frames.{Subframes, four_searches}
use Rattle.frame.proofs.Parts.{Searched, accepted as frame_accepted, unchanged as frame_unchanged}
use Rattle.pitch_search.specs.Inputs.{Input, searched}
use Rattle.recovery.specs.Runs.{FrameInput, Entry, search, reset, stray, frame, State, fresh_state, Event, Step, answered, searched_step, reset_step, stray_step, frame_refused_step, frame_state, frame_answered, framed, after_all, run}
use Rattle.recovery.specs.Frames.{single}
use Rattle.recovery.specs.Windows.{SameStart, WindowsAgree}
use Rattle.recovery.specs.Statement.{Last, none, last, last_after, due, one_or_three, FollowsIntact, WithinWidth, Stray, Recovers, Each, Recovery}

-- ---- subframes by their numbers
one_or_three_is : (s : Subframe) → one_or_three (subframe_number s) ≡ absolute s
one_or_three_is One = refl
one_or_three_is Two = refl
one_or_three_is Three = refl
one_or_three_is Four = refl

following_is : (s : Subframe) → subframe_number (following s) ≡ subframe_number s % 4 + 1
following_is One = refl
following_is Two = refl
following_is Three = refl
following_is Four = refl

-- a relative subframe follows an absolute one
before_relative : (s : Subframe) → absolute (following s) ≡ false → absolute s ≡ true
before_relative One e = refl
before_relative Two e = contradiction (sym e)
before_relative Three e = refl
before_relative Four e = contradiction (sym e)

two_or_four : (s : Subframe) → (subframe_number s ≡ 2) ⊎ (subframe_number s ≡ 4) → absolute s ≡ false
two_or_four One (inl e) = absurd (omega arith)
two_or_four One (inr e) = absurd (omega arith)
two_or_four Two e = refl
two_or_four Three (inl e) = absurd (omega arith)
two_or_four Three (inr e) = absurd (omega arith)
two_or_four Four e = refl

-- ---- the reader
-- a reading of the expected subframe, with an index within its width
taken : (r : Reader) (n i : ℕ) → n ≡ subframe_number r.next → i ≤ cond (absolute r.next) 255 31 → read r n i ≡ read_in r.next r i
taken r n i e w = reading_let_through r n i e (fits (absolute r.next) w)
  where
    fits : (t : Bool) → i ≤ cond t 255 31 → (t || leb i 31) ≡ true
    fits true h = refl
    fits false h = le-leb i 31 h

-- a stray reading
stray_refused : (r : Reader) (n i : ℕ) → (n ≡ subframe_number r.next → ⊥) ⊎ (((n ≡ 2) ⊎ (n ≡ 4)) × (31 < i)) →
    (accepts (read r n i).answer ≡ false) × ((read r n i).after ≡ r)
unfolding read
stray_refused r n i h = failed r _ (reading_checks r n i) (no h)
  where
    above : (t : Bool) → t ≡ false → (t || leb i 31) ≡ true → i ≤ 31
    above true q e = contradiction (sym q)
    above false q e = leb-true i 31 e

    no : (n ≡ subframe_number r.next → ⊥) ⊎ (((n ≡ 2) ⊎ (n ≡ 4)) × (31 < i)) →
        Passes (reading_checks r n i) → ⊥
    no (inl d) (a, (b, (c, u))) = d (eqb-true n (subframe_number r.next) b)
    no (inr (m, l)) (a, (b, (c, u))) =
        let e = eqb-true n (subframe_number r.next) b in
        let o = two_or_four r.next (rw e at m) in
        absurd (omega (arith, above (absolute r.next) o c))

-- an absolute index is read without the lag before, and without the upper lag
by_itself : (s : Subframe) (u v a b i : ℕ) → absolute s ≡ true → lag_of u s a i ≡ lag_of v s b i
by_itself s u v a b i t = rw t

-- ---- the searcher
abbrev let_through : Search → Input → Outcome SearchedPitch Search
let_through s x = accepted s x.excitation x.target x.impulse x.first x.second

-- in subframes two and four the windows start alike after the same whole lag, under the same upper lag
same_window : (s : Subframe) (u v a b first second : ℕ) → absolute s ≡ false → u ≡ v → a ≡ b → start_used v s b ≡ start_of u s a first second
same_window One u v a b first second t d e = contradiction (sym t)
same_window Two u v a b first second t d e = rw (d, e)
same_window Three u v a b first second t d e = contradiction (sym t)
same_window Four u v a b first second t d e = rw (d, e)

-- ---- the invariant of a run whose searcher and reader are made with one upper lag
pub record InStep (upper : UpperLag) (σ : State) (m : Last) : Type 0 where
  pub searchers : σ.searcher.upper ≡ upper
  pub readers : σ.reader.upper ≡ upper
  pub is_due : subframe_number σ.searcher.next ≡ due m
  pub same : σ.reader.next ≡ σ.searcher.next
  pub agree : absolute σ.searcher.next ≡ false → FollowsIntact m → σ.searcher.previous.samples ≡ σ.reader.previous.samples

fresh_in_step : (upper : UpperLag) → InStep upper (fresh_state upper) none
fresh_in_step upper = record { searchers = refl; readers = refl; is_due = refl; same = refl; agree = λ t h. absurd h }

-- of one step
abbrev Of : (Last → State → Event → State → Type 0) → Last → Step → Type 0
Of P m t = P m t.before t.event t.after

-- what is claimed of an event: by demand 3, and of the windows' starts
abbrev Claims : UpperLag → Last → State → Event → State → Type 0
Claims upper m σ e τ = Recovers upper m σ e τ × SameStart m σ e τ

-- what an entry must do: meet the claims, and keep the invariant
abbrev Keeps : UpperLag → Last → Step → Type 0
Keeps upper m t = Of (Claims upper) m t × InStep upper t.after (last_after m t.event)

module _ (upper : UpperLag) (σ : State) (m : Last) (inv : InStep upper σ m) where
  abbrev s : Search
  s = σ.searcher

  abbrev r : Reader
  r = σ.reader

  same_upper : s.upper ≡ r.upper
  same_upper = inv.searchers ∙ sym inv.readers

  module _ (x : Input) (i : ℕ) where
    module _ (p : SearchedPitch) (h : (searched s x).answer ≡ values p) (w : i ≤ cond (one_or_three x.subframe) 255 31) where
      expected : x.subframe ≡ subframe_number s.next
      expected = is_expected s x.excitation x.target x.impulse x.first x.second x.subframe (ap accepts h)

      outcome : searched s x ≡ let_through s x
      outcome = through s x.excitation x.target x.impulse x.first x.second x.subframe (ap accepts h)

      found : p ≡ value_or p (let_through s x).answer
      found = ap (value_or p) (sym h ∙ ap (λ (o : Outcome SearchedPitch Search). o.answer) outcome)

      reading : read r x.subframe i ≡ read_in s.next r i
      reading =
          let e : x.subframe ≡ subframe_number r.next = expected ∙ ap subframe_number (sym inv.same) in
          let v : i ≤ cond (absolute r.next) 255 31 = rw (inv.same, ← (one_or_three_is s.next), ← expected) w in
          taken r x.subframe i e v ∙ ap (λ (s : Subframe). read_in s r i) inv.same

      -- an intact index is read as it was sent, where the reader holds the searcher's lag or needs none
      own_back : i ≡ p.index → lag_of (upper_samples s.upper) s.next s.previous.samples i ≡ p.lag
      own_back e =
          let u = s.upper in
          ap (lag_of (upper_samples u) s.next s.previous.samples) (e ∙ ap (λ (q : SearchedPitch). q.index) found)
          ∙ sent_back (upper_samples u) (upper_from_40 u) (upper_to_143 u) s.previous.samples x.first x.second x.excitation x.target x.impulse s.next
          ∙ sym (ap (λ (q : SearchedPitch). q.lag) found)

      read_back : i ≡ p.index → (absolute s.next ≡ true) ⊎ (s.previous.samples ≡ r.previous.samples) →
          lag_of (upper_samples r.upper) s.next r.previous.samples i ≡ p.lag
      read_back e (inl t) =
          by_itself s.next (upper_samples r.upper) (upper_samples s.upper) r.previous.samples s.previous.samples i t ∙ own_back e
      read_back e (inr q) =
          ap (λ (u : UpperLag). lag_of (upper_samples u) s.next r.previous.samples i) (sym same_upper)
          ∙ ap (λ (k : ℕ). lag_of (upper_samples s.upper) s.next k i) (sym q)
          ∙ own_back e

      holds_it : (one_or_three x.subframe ≡ true) ⊎ FollowsIntact m → (absolute s.next ≡ true) ⊎ (s.previous.samples ≡ r.previous.samples)
      holds_it (inl t) = inl (sym (one_or_three_is s.next) ∙ ap one_or_three (sym expected) ∙ t)
      holds_it (inr f) = go (absolute s.next) refl
        where
          go : (t : Bool) → absolute s.next ≡ t → (absolute s.next ≡ true) ⊎ (s.previous.samples ≡ r.previous.samples)
          go true q = inl q
          go false q = inr (inv.agree q f)

      stepped : (a : Told PitchLag) →
          InStep upper (record { searcher = (let_through s x).after; reader = (read_in s.next r i).after })
          (last (record { subframe = x.subframe; sent = p; arrived = i; reading = a }))
      stepped a =
          record {
            searchers = inv.searchers;
            readers = inv.readers;
            is_due = following_is s.next ∙ ap (λ (n : ℕ). n % 4 + 1) (sym expected);
            same = refl;
            agree =
                λ t e. ap (λ (l : PitchLag). l.samples) (sym (ap (λ (q : SearchedPitch). q.lag) found) ∙ sym (read_back e (inl (before_relative s.next t))));
          }

      same_start : (x.subframe ≡ 2) ⊎ (x.subframe ≡ 4) → FollowsIntact m →
          start_used (upper_samples r.upper) s.next r.previous.samples
          ≡ start_of (upper_samples s.upper) s.next s.previous.samples x.first x.second
      same_start two f =
          let t = two_or_four s.next (rw expected at two) in
          let u = ap upper_samples same_upper in
          same_window s.next (upper_samples s.upper) (upper_samples r.upper) s.previous.samples r.previous.samples x.first x.second t u (inv.agree t f)

      placed : Keeps upper m (answered σ x.subframe i (searched s x).after (values p))
      placed = (
        (
          (rw reading, λ e c. ap (λ (o : Outcome PitchLag Reader). o.answer) reading ∙ ap values (read_back e (holds_it c))),
          λ two f. rw (outcome, reading) (same_start two f),
        ),
        rw (outcome, reading) (stepped (read_in s.next r i).answer),
      )

    -- a refused search
    handed_nothing : (n : ℕ) (d : ℤ) → (searched s x).answer ≡ refused n d → Keeps upper m (answered σ x.subframe i (searched s x).after (refused n d))
    handed_nothing n d h = let e = unchanged s x.excitation x.target x.impulse x.first x.second x.subframe (ap accepts h) in ((rw e, tt), rw e inv)

    searching : (a : Told SearchedPitch) → (searched s x).answer ≡ a →
        Of WithinWidth m (answered σ x.subframe i (searched s x).after a) → Keeps upper m (answered σ x.subframe i (searched s x).after a)
    searching (values p) h w = placed p h w
    searching (refused n d) h w = handed_nothing n d h

  made_fresh_again : record { searcher = reset_search s; reader = reset_reader r } ≡ fresh_state upper
  made_fresh_again = rw (inv.searchers, inv.readers)

  -- ---- an entry of one step
  keeps_search : (x : Input) (i : ℕ) → let t = searched_step σ x i in Of WithinWidth m t → Keeps upper m t
  keeps_search x i w = searching x i (searched s x).answer refl w

  keeps_reset : Keeps upper m (reset_step σ)
  keeps_reset = ((made_fresh_again, tt), rw made_fresh_again (fresh_in_step upper))

  keeps_stray : (n i : ℕ) → let t = stray_step σ n i in Of Stray m t → Keeps upper m t
  keeps_stray n i t = let a = stray_refused r n i (rw (← inv.is_due, ← inv.same) at t) in (((a.0, rw a.1), tt), rw a.1 inv)

  keeps_refused_frame : (n : ℕ) (d : ℤ) → Keeps upper m (frame_refused_step σ s n d)
  keeps_refused_frame n d = ((refl, tt), inv)

-- ---- the list
module _ (upper : UpperLag) where
  -- where both hypotheses are met, so are the claims
  abbrev Runs : Last → List Step → Type 0
  Runs m ss = Each WithinWidth m ss → Each Stray m ss → Each (Claims upper) m ss

  -- one more step before a run
  before_run : (m : Last) (t : Step) (ss : List Step) → (Of WithinWidth m t → Of Stray m t → Keeps upper m t) →
      (InStep upper t.after (last_after m t.event) → Runs (last_after m t.event) ss) → Runs m (t ∷ ss)
  before_run m t ss keeps rest (w, ws) (o, os) = let k = keeps w o in (k.0, rest k.1 ws os)

  module _ (σ : State) (m : Last) (inv : InStep upper σ m) (x : FrameInput) (i : Subframes ℕ) (es : List Entry)
      (rest : (τ : State) (n : Last) → InStep upper τ n → Runs n (run τ es)) where
    -- the run of a frame and of the entries behind it, by the frame's searcher and answer
    abbrev from_frame : Search → Told FramePitches → List Step
    from_frame s a = framed σ x i s a ++ run (after_all σ (framed σ x i s a)) es

    -- each of its four places is that of a single search
    accepted_frame : (p : FramePitches) → Searched σ.searcher x.sets p →
        Runs m (from_frame (four_searches σ.searcher x.sets p.first.0 p.second.0).four.after (values p))
    accepted_frame p f =
        let o = four_searches σ.searcher x.sets p.first.0 p.second.0 in
        let a = answered σ 1 i.one o.one.after (values p.one) in
        let b = answered a.after 2 i.two o.two.after (values p.two) in
        let c = answered b.after 3 i.three o.three.after (values p.three) in
        let d = answered c.after 4 i.four o.four.after (values p.four) in
        let behind = run d.after es in
        before_run m a (b ∷ c ∷ d ∷ behind) (λ w t. placed upper σ m inv (single x.sets.one p.first.0 p.second.0 1) i.one p.one f.one w)
        (λ v. before_run (last_after m a.event) b (c ∷ d ∷ behind)
        (λ w t. placed upper a.after _ v (single x.sets.two p.first.0 p.second.0 2) i.two p.two f.two w)
        (λ v. before_run (last_after m b.event) c (d ∷ behind)
        (λ w t. placed upper b.after _ v (single x.sets.three p.first.0 p.second.0 3) i.three p.three f.three w)
        (λ v. before_run (last_after m c.event) d behind
        (λ w t. placed upper c.after _ v (single x.sets.four p.first.0 p.second.0 4) i.four p.four f.four w)
        (λ v. rest d.after (last_after m d.event) v))))

    by_answer : (a : Told FramePitches) → (frame_answered σ.searcher x).answer ≡ a → Runs m (from_frame (frame_answered σ.searcher x).after.searcher a)
    by_answer (values p) h =
        let f = (frame_accepted (frame_state σ.searcher x) x.samples x.sets p h).1 in
        rw f.searcher (accepted_frame p f.answers)
    by_answer (refused n d) h =
        let u = frame_unchanged (frame_state σ.searcher x) x.samples x.sets (ap accepts h) in
        rw u (before_run m (frame_refused_step σ σ.searcher n d) _ (λ w t. keeps_refused_frame upper σ m inv n d) (λ v. rest σ m v))

  all : (σ : State) (m : Last) (es : List Entry) → InStep upper σ m → Runs m (run σ es)
  unfolding run
  all σ m [] inv = λ w t. tt
  all σ m (search x i ∷ es) inv =
      let t = searched_step σ x i in before_run m t _ (λ w o. keeps_search upper σ m inv x i w) (λ v. all t.after (last_after m t.event) es v)
  all σ m (reset ∷ es) inv =
      let t = reset_step σ in before_run m t _ (λ w o. keeps_reset upper σ m inv) (λ v. all t.after none es v)
  all σ m (stray n i ∷ es) inv =
      let t = stray_step σ n i in before_run m t _ (λ w o. keeps_stray upper σ m inv n i o) (λ v. all t.after m es v)
  all σ m (frame x i ∷ es) inv = by_answer σ m inv x i es (λ τ n v. all τ n es v) _ refl

  -- one of the claims by itself
  each : (P : Last → State → Event → State → Type 0) → ((m : Last) (s : Step) → Of (Claims upper) m s → Of P m s) →
      (m : Last) (ss : List Step) → Each (Claims upper) m ss → Each P m ss
  each P f m [] c = tt
  each P f m (s ∷ ss) (c, cs) = (f m s c, each P f (last_after m s.event) ss cs)

  of_fresh : (P : Last → State → Event → State → Type 0) → ((m : Last) (s : Step) → Of (Claims upper) m s → Of P m s) → (es : List Entry) →
      Each WithinWidth none (run (fresh_state upper) es) → Each Stray none (run (fresh_state upper) es) → Each P none (run (fresh_state upper) es)
  of_fresh P f es w t = each P f none (run (fresh_state upper) es) (all (fresh_state upper) none es (fresh_in_step upper) w t)

pub recovery : Recovery
unfolding Recovery
recovery upper es w t = of_fresh upper (Recovers upper) (λ m s c. c.0) es w t

pub windows_agree : WindowsAgree
unfolding WindowsAgree
windows_agree upper es w t = of_fresh upper SameStart (λ m s c. c.1) es w t
