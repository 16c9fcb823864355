-- 02, request 11: what runs of a dispatcher keep to, from every list and every last served number and over every run, of records with searchers and of records in numbers.
use Rattle.std.specs.Prelude.{◌≡◌, Some, true, false, cond, List, [], ◌∷◌, ◌⊎◌, ℕ, zero, suc, eqb, length, slice_get}
use Rattle.refusal.specs.Refused.{Told, values, refused, accepts, put}
use Rattle.refusal.specs.Checks.{Outcome, within}
use Rattle.pitch_search.specs.Inputs.{searched}
use Rattle.dispatch.specs.declared.Channel.{Channel}
use Rattle.dispatch.specs.Services.{Kind, State, next_of, serve_of, mark_of}
use Rattle.dispatch.specs.Channels.{channel_kind}
use Rattle.channel_state.specs.declared.ChannelState.{ChannelState}
use Rattle.channel_state.specs.Kinds.{searched_in_numbers, number_kind}
use Rattle.dispatch_runs.specs.Runs.{Entry, Event, stepped, marked, told_next, Step, run}

-- ---- 'a waiting channel is served within as many steps as there are channels'
-- what an event is for channel c with k service steps left, where `rest` says it of the rest of the run: a step that is refused by 15 or 17, or one too many, is none
abbrev pub Then : {X A : Type 0} → ℕ → ℕ → Event X A → (ℕ → Type 0) → Type 0
Then c zero (stepped x (values s)) rest = ⊥
Then c (suc k) (stepped x (values s)) rest = (s.channel ≡ c) ⊎ rest k
Then c k (stepped x (refused n d)) rest = ⊥
Then c k (marked i u) rest = rest k
Then c k (told_next j) rest = rest k

-- one of the next k service steps of a run serves channel c, whatever its search answers, and none is refused until then; or the run ends before there are k
abbrev pub ServedWithin : {R X A : Type 0} → ℕ → ℕ → List (Step R X A) → Type 0
ServedWithin c k [] = Unit {0}
ServedWithin c k (s ∷ ss) = Then c k s.event (λ m. ServedWithin c m ss)

-- 'no matter what others mark'
unfoldable pub Fair : {R X A : Type 0} → Kind R X A → Type 0
Fair {R} {X} kind =
    (σ : State R) (es : List (Entry X)) (c : ℕ) (r : R) → within 1 24 (length σ.channels) ≡ true → slice_get σ.channels c ≡ Some r → kind.waits r ≡ true →
    ServedWithin c (length σ.channels) (run kind σ es)

-- ---- 'a channel's pitch answers are the same in any two runs where it starts with the same searcher and its own steps get the same inputs'
-- what the steps of channel c were handed, in order
abbrev pub and_input : {X A : Type 0} → ℕ → Event X A → List X → List X
and_input c (stepped x (values s)) xs = cond (eqb s.channel c) (x ∷ xs) xs
and_input c (stepped x (refused n d)) xs = xs
and_input c (marked i u) xs = xs
and_input c (told_next j) xs = xs

abbrev pub own_inputs : {R X A : Type 0} → ℕ → List (Step R X A) → List X
own_inputs c [] = []
own_inputs c (s ∷ ss) = and_input c s.event (own_inputs c ss)

-- and what its searches answered
abbrev pub and_answer : {X A : Type 0} → ℕ → Event X A → List (Told A) → List (Told A)
and_answer c (stepped x (values s)) ys = cond (eqb s.channel c) (s.found ∷ ys) ys
and_answer c (stepped x (refused n d)) ys = ys
and_answer c (marked i u) ys = ys
and_answer c (told_next j) ys = ys

abbrev pub own_answers : {R X A : Type 0} → ℕ → List (Step R X A) → List (Told A)
own_answers c [] = []
own_answers c (s ∷ ss) = and_answer c s.event (own_answers c ss)

-- of any two channels, of lists of any lengths, in runs of any lengths, whatever else is marked and served
unfoldable pub Isolated : {R S X A : Type 0} → Kind R X A → (R → S) → Type 0
Isolated {R} {S} {X} kind searcher =
    (σ τ : State R) (es fs : List (Entry X)) (c d : ℕ) (r q : R) → slice_get σ.channels c ≡ Some r → slice_get τ.channels d ≡ Some q → searcher r ≡ searcher q →
    own_inputs c (run kind σ es) ≡ own_inputs d (run kind τ fs) → own_answers c (run kind σ es) ≡ own_answers d (run kind τ fs)

-- what a searcher by itself answers to a list of inputs
abbrev pub alone : {S X A : Type 0} → (S → X → Outcome A S) → S → List X → List (Told A)
alone search s [] = []
alone search s (x ∷ xs) = (search s x).answer ∷ alone search (search s x).after xs

-- that is what its channel answers
unfoldable pub AsAlone : {R S X A : Type 0} → Kind R X A → (R → S) → (S → X → Outcome A S) → Type 0
AsAlone {R} {S} {X} kind searcher search =
    (σ : State R) (es : List (Entry X)) (c : ℕ) (r : R) → slice_get σ.channels c ≡ Some r →
    own_answers c (run kind σ es) ≡ alone search (searcher r) (own_inputs c (run kind σ es))

-- ---- one step
-- the channel that is told is the one that a step serves, and a telling is refused as a step is
unfoldable pub ToldIsServed : {R X A : Type 0} → Kind R X A → Type 0
ToldIsServed {R} {X} kind = (σ : State R) (x : X) → put (λ s. s.channel) (serve_of kind σ x).answer ≡ next_of kind σ

-- 15 and 17 leave the list and the last served number as they were; and so do 15 and 16 of a mark
unfoldable pub NothingChanged : {R X A : Type 0} → Kind R X A → Type 0
NothingChanged {R} {X} kind =
    ((σ : State R) (x : X) → accepts (serve_of kind σ x).answer ≡ false → (serve_of kind σ x).after ≡ σ)
    × ((cs : List R) (k : ℕ) → accepts (mark_of kind cs k).answer ≡ false → (mark_of kind cs k).after ≡ cs)

-- a channel whose search is refused: 'The mark is cleared', and its searcher is as it was
unfoldable pub SearcherKept : {R S X A : Type 0} → Kind R X A → (R → S) → Type 0
SearcherKept {R} {S} {X} kind searcher =
    (r : R) (x : X) → let o = kind.search r x in
    (kind.waits o.after ≡ false) × (accepts o.answer ≡ false → searcher o.after ≡ searcher r)

-- ---- the statement, of one kind of record
pub record Dispatches {R S X A : Type 0} (kind : Kind R X A) (searcher : R → S) (search : S → X → Outcome A S) : Type 0 where
  pub fair : Fair kind
  pub isolated : Isolated kind searcher
  pub as_alone : AsAlone kind searcher search
  pub told_is_served : ToldIsServed kind
  pub nothing_changed : NothingChanged kind
  pub searcher_kept : SearcherKept kind searcher

-- and of both
unfoldable pub Dispatch : Type 0
Dispatch =
    Dispatches channel_kind (λ (c : Channel). c.searcher) searched
    × Dispatches number_kind (λ (c : ChannelState). c.searcher) searched_in_numbers
