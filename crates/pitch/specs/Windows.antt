-- 01, 'Closed loop': the window of whole lags that a search goes through (TS 26.073 getRange). Each rule is for every upper lag.
use Rattle.std.specs.Prelude.{ℕ, ◌-◌, min, max}

-- a window of span + 1 lags from centre - radius, pushed inward so that it lies in 20 .. upper
abbrev pub window_start : ℕ → ℕ → ℕ → ℕ → ℕ
window_start span radius upper centre = max 20 (min (upper - span) (centre - radius))

-- subframes 1 and 3: 7 lags from an open-loop lag - 3
abbrev pub absolute_start : ℕ → ℕ → ℕ
absolute_start upper centre = window_start 6 3 upper centre

-- subframes 2 and 4: 10 lags from the previous whole lag - 5
abbrev pub relative_start : ℕ → ℕ → ℕ
relative_start upper previous = window_start 9 5 upper previous
