use Rattle.cp_reading.proofs.Measuring.{measured}
use Rattle.cp_reading.proofs.measure.fits_uncounted.Goals as goal

pub returns : goal.returns
returns g c = rw (c.is_ok.ensures.value, ← c.place-part.ensures.tree, c.in-Body.is) (measured _ _ _ _ _ _ _ _ _ (rw c.in-Body.is at c.place-part.ensures.part) c.check_body.ensures.reports)
