-- The examples computed, a declaration each.
use mathlib.Core.Path.{refl}
use Rattle.encoder_stability.specs.Opens.{watch_opens}
use Rattle.encoder_stability.specs.Example.{Spectra, Limits, Stages, Calls}

pub spectra : Spectra
unfolding Spectra watch_opens
spectra = (refl, refl, refl, refl, refl, refl, refl, refl, refl, refl)

pub limits : Limits
unfolding Limits watch_opens
limits = (refl, refl, refl, refl, refl, refl, refl)

pub stages : Stages
unfolding Stages watch_opens
stages = (refl, refl, refl, refl, refl, refl)

pub calls : Calls
unfolding Calls watch_opens
calls = (refl, refl, refl, refl, refl, refl, refl, refl, refl, refl)
