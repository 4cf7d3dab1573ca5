use Rattle.cp_reading.proofs.view.View.fits.Given as goal

abbrev pub ghosts-fits_uncounted : goal.ghosts-fits_uncounted
ghosts-fits_uncounted a = record { name = a.blank.name; parts = a.blank.parts }
