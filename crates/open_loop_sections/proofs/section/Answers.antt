use mathlib.Core.Path.{◌≡◌, ◌∙◌}
use mathlib.Core.List.{List}
use Prim.Native.Nat.{ℕ, ◌+◌, ◌-◌, ◌≤◌}
use native.Mathlib.Omega.{arith}
use borrow.Author.Rules.{rules}
use lib.IntN.{ℤ}
use lib.Signed.{lt_z}
use mir.Syntax.{w16, w32}
use mir.Val.{to_z, of_z}
use Rattle.fixed.specs.Lists.{at, best}
use Rattle.fixed.proofs.Bounds.{got}
use Rattle.fixed.proofs.Choices.{best_in}
use Rattle.open_loop_correlation.proofs.Energies.{energy_within}
use Rattle.open_loop_correlation.proofs.Lags.{at_lag}
use Rattle.open_loop_sections.specs.Sections.{Lag_max, delayed_energy, long_at, value_at}
use Rattle.open_loop_sections.proofs.Lags.{lag_max_table, lag_max_in}
use Rattle.open_loop_sections.proofs.section.Goals as goal

-- the lag is in the table
short : (ts : List ℤ) (low span lag : ℕ) → lag ≡ best lt_z (at ts) low span → low + span ≤ 143 → lag ≤ 143
short ts low span lag e h = omega (arith, (best_in lt_z (at ts) low span).1)

pub returns : goal.returns
unfolding value_at long_at delayed_energy
returns c =
    let xs = c.args.words.now in
    let ts = c.args.table.now in
    let low = c.args.low in
    let span = c.args.span in
    let r = c.requires in
    let b = c.best_lag-lag in
    let l : b.result ≡ Lag_max xs low span = b.ensures ∙ rw r.0 (lag_max_table xs low span r.1 r.2) in
    let h = lag_max_in xs low span r.1 r.2 in
    let k : b.result ≤ 143 = short ts low span b.result b.ensures r.2 in
    let v : to_z w32 (of_z w32 (at ts b.result)) ≡ at ts b.result = search rules in
    rw (
      got w16 c.low_word-value.type_inv c.low_word-value.ensures,
      got w32 c.multiply.type_inv c.multiply.ensures,
      got w32 c.inverse_sqrt-root.type_inv c.inverse_sqrt-root.ensures,
      got w32 c.energy-energy.type_inv c.energy-energy.ensures,
      v,
      l,
      energy_within xs (143 - Lag_max xs low span) 80 (omega (arith, h.1)),
      r.0,
      at_lag xs (Lag_max xs low span) h.0 h.1,
    )
