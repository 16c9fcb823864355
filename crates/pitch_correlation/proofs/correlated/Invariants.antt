use Rattle.std.proofs.Common.{◌≡◌, ◌≤◌, ◌<◌, ◌-◌, length, pos}
use Rattle.fixed.specs.Lists.{between, dot}
use Rattle.fixed.proofs.Lists.{Filled}
use Rattle.energy.specs.Root.{inverses}
use Rattle.pitch_correlation.specs.Correlations.{loud, filtered, correlation_at}
use Rattle.pitch_correlation.proofs.Growth.{Known}
use Rattle.pitch_correlation.proofs.correlated.Given as goal

-- after the lag next - 1
abbrev pub invariant-loop-next : goal.invariant-loop-next
invariant-loop-next l =
    record {
      ordered : l.low < l.end;
      in_table : l.end ≤ 148;
      roots_are : l.roots ≡ inverses;
      known : Known l.target l.impulse l.room l.peak;
      loud_is : l.loud ≡ loud l.first;
      filtered_is : l.filtered ≡ filtered l.loud l.excitation l.impulse l.low l.first (l.next - 1 - l.low);
      energy_is : l.energy ≡ dot l.filtered l.filtered 40;
      long : length l.correlation ≡ 148;
      placed : Filled (between (correlation_at l.loud l.excitation l.target l.impulse l.low l.first) (λ k. pos 0) l.low l.next) (pos 0) 148 l.correlation;
    }
