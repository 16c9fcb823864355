-- One name for an `unfolding` line that computes the definitions of this crate.
use Rattle.fixed.specs.Opens.{fixed_opens}
use Rattle.energy.specs.Root.{inverses, root_in, Inv_sqrt_in, Inv_sqrt}

unfoldable pub energy_opens : Unit {0}
unfolding fixed_opens inverses root_in Inv_sqrt_in Inv_sqrt
energy_opens = tt
