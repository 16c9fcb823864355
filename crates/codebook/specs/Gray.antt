-- 01, 'Pulses': 'Gray numbers 0, 1, 3, 2, 6, 4, 5, 7 for place / 5', and the way back.
use Rattle.std.specs.Prelude.{List, [], ◌∷◌, ℕ}

-- TS 26.073 gray: by the number of a place in its track
unfoldable pub gray : List ℕ
gray = 0 ∷ 1 ∷ 3 ∷ 2 ∷ 6 ∷ 4 ∷ 5 ∷ 7 ∷ []

-- TS 26.073 dgray: by the Gray number
unfoldable pub dgray : List ℕ
dgray = 0 ∷ 1 ∷ 3 ∷ 2 ∷ 5 ∷ 6 ∷ 4 ∷ 7 ∷ []
