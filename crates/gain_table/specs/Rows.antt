-- TS 26.073 table_gain_highrates: 01, '128 rows' of three numbers.
use Rattle.std.specs.Prelude.{◌≡◌, true, List, [], ◌∷◌, ℕ, ltb, ℤ, pos, negsuc, get_or}
use Rattle.std.specs.Int.Signed.{le_z}
use Rattle.fixed.specs.Lists.{at, tabulate}
use Rattle.gain_table.specs.declared.GainRow.{GainRow}

-- pitch gain Q14, correction Q12, energy Q10 (IS-641)
unfoldable pub table : List (List ℤ)
table =
    (pos 577 ∷ pos 662 ∷ negsuc 16213 ∷ [])
    ∷ (pos 806 ∷ pos 1836 ∷ negsuc 7134 ∷ [])
    ∷ (pos 3109 ∷ pos 1052 ∷ negsuc 12085 ∷ [])
    ∷ (pos 4181 ∷ pos 1387 ∷ negsuc 9628 ∷ [])
    ∷ (pos 2373 ∷ pos 1425 ∷ negsuc 9393 ∷ [])
    ∷ (pos 3248 ∷ pos 1985 ∷ negsuc 6441 ∷ [])
    ∷ (pos 1827 ∷ pos 2320 ∷ negsuc 5055 ∷ [])
    ∷ (pos 941 ∷ pos 3314 ∷ negsuc 1884 ∷ [])
    ∷ (pos 2351 ∷ pos 2977 ∷ negsuc 2837 ∷ [])
    ∷ (pos 3616 ∷ pos 2420 ∷ negsuc 4680 ∷ [])
    ∷ (pos 3451 ∷ pos 3096 ∷ negsuc 2489 ∷ [])
    ∷ (pos 2955 ∷ pos 4301 ∷ pos 434 ∷ [])
    ∷ (pos 1848 ∷ pos 4500 ∷ pos 836 ∷ [])
    ∷ (pos 3884 ∷ pos 5416 ∷ pos 2484 ∷ [])
    ∷ (pos 1187 ∷ pos 7210 ∷ pos 5030 ∷ [])
    ∷ (pos 3083 ∷ pos 9000 ∷ pos 7002 ∷ [])
    ∷ (pos 7384 ∷ pos 883 ∷ negsuc 13646 ∷ [])
    ∷ (pos 5962 ∷ pos 1506 ∷ negsuc 8899 ∷ [])
    ∷ (pos 5155 ∷ pos 2134 ∷ negsuc 5799 ∷ [])
    ∷ (pos 7944 ∷ pos 2009 ∷ negsuc 6334 ∷ [])
    ∷ (pos 6507 ∷ pos 2250 ∷ negsuc 5326 ∷ [])
    ∷ (pos 7670 ∷ pos 2752 ∷ negsuc 3536 ∷ [])
    ∷ (pos 5952 ∷ pos 3016 ∷ negsuc 2723 ∷ [])
    ∷ (pos 4898 ∷ pos 3764 ∷ negsuc 750 ∷ [])
    ∷ (pos 6989 ∷ pos 3588 ∷ negsuc 1176 ∷ [])
    ∷ (pos 8174 ∷ pos 3978 ∷ negsuc 259 ∷ [])
    ∷ (pos 6064 ∷ pos 4404 ∷ pos 645 ∷ [])
    ∷ (pos 7709 ∷ pos 5087 ∷ pos 1928 ∷ [])
    ∷ (pos 5523 ∷ pos 6021 ∷ pos 3426 ∷ [])
    ∷ (pos 7769 ∷ pos 7126 ∷ pos 4926 ∷ [])
    ∷ (pos 6060 ∷ pos 7938 ∷ pos 5885 ∷ [])
    ∷ (pos 5594 ∷ pos 11487 ∷ pos 9172 ∷ [])
    ∷ (pos 10581 ∷ pos 1356 ∷ negsuc 9830 ∷ [])
    ∷ (pos 9049 ∷ pos 1597 ∷ negsuc 8379 ∷ [])
    ∷ (pos 9794 ∷ pos 2035 ∷ negsuc 6219 ∷ [])
    ∷ (pos 8946 ∷ pos 2415 ∷ negsuc 4699 ∷ [])
    ∷ (pos 10296 ∷ pos 2584 ∷ negsuc 4098 ∷ [])
    ∷ (pos 9407 ∷ pos 2734 ∷ negsuc 3594 ∷ [])
    ∷ (pos 8700 ∷ pos 3218 ∷ negsuc 2143 ∷ [])
    ∷ (pos 9757 ∷ pos 3395 ∷ negsuc 1668 ∷ [])
    ∷ (pos 10177 ∷ pos 3892 ∷ negsuc 453 ∷ [])
    ∷ (pos 9170 ∷ pos 4528 ∷ pos 891 ∷ [])
    ∷ (pos 10152 ∷ pos 5004 ∷ pos 1781 ∷ [])
    ∷ (pos 9114 ∷ pos 5735 ∷ pos 2993 ∷ [])
    ∷ (pos 10500 ∷ pos 6266 ∷ pos 3782 ∷ [])
    ∷ (pos 10110 ∷ pos 7631 ∷ pos 5534 ∷ [])
    ∷ (pos 8844 ∷ pos 8727 ∷ pos 6728 ∷ [])
    ∷ (pos 8956 ∷ pos 12496 ∷ pos 9921 ∷ [])
    ∷ (pos 12924 ∷ pos 976 ∷ negsuc 12752 ∷ [])
    ∷ (pos 11435 ∷ pos 1755 ∷ negsuc 7538 ∷ [])
    ∷ (pos 12138 ∷ pos 2328 ∷ negsuc 5023 ∷ [])
    ∷ (pos 11388 ∷ pos 2368 ∷ negsuc 4871 ∷ [])
    ∷ (pos 10700 ∷ pos 3064 ∷ negsuc 2579 ∷ [])
    ∷ (pos 12332 ∷ pos 2861 ∷ negsuc 3191 ∷ [])
    ∷ (pos 11722 ∷ pos 3327 ∷ negsuc 1847 ∷ [])
    ∷ (pos 11270 ∷ pos 3700 ∷ negsuc 903 ∷ [])
    ∷ (pos 10861 ∷ pos 4413 ∷ pos 663 ∷ [])
    ∷ (pos 12082 ∷ pos 4533 ∷ pos 902 ∷ [])
    ∷ (pos 11283 ∷ pos 5205 ∷ pos 2132 ∷ [])
    ∷ (pos 11960 ∷ pos 6305 ∷ pos 3837 ∷ [])
    ∷ (pos 11167 ∷ pos 7534 ∷ pos 5420 ∷ [])
    ∷ (pos 12128 ∷ pos 8329 ∷ pos 6312 ∷ [])
    ∷ (pos 10969 ∷ pos 10777 ∷ pos 8604 ∷ [])
    ∷ (pos 10300 ∷ pos 17376 ∷ pos 12853 ∷ [])
    ∷ (pos 13899 ∷ pos 1681 ∷ negsuc 7920 ∷ [])
    ∷ (pos 12580 ∷ pos 2045 ∷ negsuc 6178 ∷ [])
    ∷ (pos 13265 ∷ pos 2439 ∷ negsuc 4609 ∷ [])
    ∷ (pos 14033 ∷ pos 2989 ∷ negsuc 2801 ∷ [])
    ∷ (pos 13452 ∷ pos 3098 ∷ negsuc 2481 ∷ [])
    ∷ (pos 12396 ∷ pos 3658 ∷ negsuc 1005 ∷ [])
    ∷ (pos 13510 ∷ pos 3780 ∷ negsuc 712 ∷ [])
    ∷ (pos 12880 ∷ pos 4272 ∷ pos 374 ∷ [])
    ∷ (pos 13533 ∷ pos 4861 ∷ pos 1523 ∷ [])
    ∷ (pos 12667 ∷ pos 5457 ∷ pos 2552 ∷ [])
    ∷ (pos 13854 ∷ pos 6106 ∷ pos 3551 ∷ [])
    ∷ (pos 13031 ∷ pos 6483 ∷ pos 4084 ∷ [])
    ∷ (pos 13557 ∷ pos 7721 ∷ pos 5639 ∷ [])
    ∷ (pos 12957 ∷ pos 9311 ∷ pos 7304 ∷ [])
    ∷ (pos 13714 ∷ pos 11551 ∷ pos 9221 ∷ [])
    ∷ (pos 12591 ∷ pos 15206 ∷ pos 11667 ∷ [])
    ∷ (pos 15113 ∷ pos 1540 ∷ negsuc 8699 ∷ [])
    ∷ (pos 15072 ∷ pos 2333 ∷ negsuc 5006 ∷ [])
    ∷ (pos 14527 ∷ pos 2511 ∷ negsuc 4351 ∷ [])
    ∷ (pos 14692 ∷ pos 3199 ∷ negsuc 2196 ∷ [])
    ∷ (pos 15382 ∷ pos 3560 ∷ negsuc 1246 ∷ [])
    ∷ (pos 14133 ∷ pos 3960 ∷ negsuc 299 ∷ [])
    ∷ (pos 15102 ∷ pos 4236 ∷ pos 298 ∷ [])
    ∷ (pos 14332 ∷ pos 4824 ∷ pos 1454 ∷ [])
    ∷ (pos 14846 ∷ pos 5451 ∷ pos 2542 ∷ [])
    ∷ (pos 15306 ∷ pos 6083 ∷ pos 3518 ∷ [])
    ∷ (pos 14329 ∷ pos 6888 ∷ pos 4623 ∷ [])
    ∷ (pos 15060 ∷ pos 7689 ∷ pos 5602 ∷ [])
    ∷ (pos 14406 ∷ pos 9426 ∷ pos 7413 ∷ [])
    ∷ (pos 15387 ∷ pos 9741 ∷ pos 7706 ∷ [])
    ∷ (pos 14824 ∷ pos 14271 ∷ pos 11102 ∷ [])
    ∷ (pos 13600 ∷ pos 24939 ∷ pos 16067 ∷ [])
    ∷ (pos 16396 ∷ pos 1969 ∷ negsuc 6516 ∷ [])
    ∷ (pos 16817 ∷ pos 2832 ∷ negsuc 3282 ∷ [])
    ∷ (pos 15713 ∷ pos 2843 ∷ negsuc 3247 ∷ [])
    ∷ (pos 16104 ∷ pos 3336 ∷ negsuc 1824 ∷ [])
    ∷ (pos 16384 ∷ pos 3963 ∷ negsuc 293 ∷ [])
    ∷ (pos 16940 ∷ pos 4579 ∷ pos 992 ∷ [])
    ∷ (pos 15711 ∷ pos 4599 ∷ pos 1030 ∷ [])
    ∷ (pos 16222 ∷ pos 5448 ∷ pos 2537 ∷ [])
    ∷ (pos 16832 ∷ pos 6382 ∷ pos 3945 ∷ [])
    ∷ (pos 15745 ∷ pos 7141 ∷ pos 4944 ∷ [])
    ∷ (pos 16326 ∷ pos 7469 ∷ pos 5343 ∷ [])
    ∷ (pos 16611 ∷ pos 8624 ∷ pos 6622 ∷ [])
    ∷ (pos 17028 ∷ pos 10418 ∷ pos 8303 ∷ [])
    ∷ (pos 15905 ∷ pos 11817 ∷ pos 9423 ∷ [])
    ∷ (pos 16878 ∷ pos 14690 ∷ pos 11360 ∷ [])
    ∷ (pos 16515 ∷ pos 20870 ∷ pos 14483 ∷ [])
    ∷ (pos 18142 ∷ pos 2083 ∷ negsuc 6012 ∷ [])
    ∷ (pos 19401 ∷ pos 3178 ∷ negsuc 2256 ∷ [])
    ∷ (pos 17508 ∷ pos 3426 ∷ negsuc 1588 ∷ [])
    ∷ (pos 20054 ∷ pos 4027 ∷ negsuc 150 ∷ [])
    ∷ (pos 18069 ∷ pos 4249 ∷ pos 326 ∷ [])
    ∷ (pos 18952 ∷ pos 5066 ∷ pos 1890 ∷ [])
    ∷ (pos 17711 ∷ pos 5402 ∷ pos 2461 ∷ [])
    ∷ (pos 19835 ∷ pos 6192 ∷ pos 3676 ∷ [])
    ∷ (pos 17950 ∷ pos 7014 ∷ pos 4784 ∷ [])
    ∷ (pos 21318 ∷ pos 7877 ∷ pos 5816 ∷ [])
    ∷ (pos 17910 ∷ pos 9289 ∷ pos 7283 ∷ [])
    ∷ (pos 19144 ∷ pos 9290 ∷ pos 7284 ∷ [])
    ∷ (pos 20517 ∷ pos 11381 ∷ pos 9089 ∷ [])
    ∷ (pos 18075 ∷ pos 14485 ∷ pos 11234 ∷ [])
    ∷ (pos 19999 ∷ pos 17882 ∷ pos 13108 ∷ [])
    ∷ (pos 18842 ∷ pos 32764 ∷ pos 18494 ∷ [])
    ∷ []

-- the number in column c of row i; 0 past the table's end
abbrev pub cell : ℕ → ℕ → ℤ
cell c i = at (get_or table i []) c

abbrev pub pitch : ℕ → ℤ
pitch i = cell 0 i

abbrev pub correction : ℕ → ℤ
correction i = cell 1 i

-- a row
unfoldable pub row : ℕ → GainRow
row i = record { pitch_q14 = pitch i; correction_q12 = correction i; energy_q10 = cell 2 i }

-- the columns
unfoldable pub column : ℕ → List ℤ
column c = tabulate (cell c) 128

abbrev pub pitches : List ℤ
pitches = column 0

abbrev pub corrections : List ℤ
corrections = column 1

-- 01: 'rows 0 to 95 have pitch at most 15565, rows 96 to 127 above; every correction lies in 662 to 32764'
pub record Ruled (i : ℕ) : Type 0 where
  pub pitch_limit : le_z (pitch i) (pos 15565) ≡ ltb i 96
  pub correction_from : le_z (pos 662) (correction i) ≡ true
  pub correction_to : le_z (correction i) (pos 32764) ≡ true
