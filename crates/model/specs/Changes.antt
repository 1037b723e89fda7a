-- 02, item 5: between steps a caller may replace L, a bend, or move the finger's place, a slide, and gets a new setup.
use Rattle.std.specs.Prelude.{ℕ}
use Rattle.model.specs.Refusal.{Answer}
use Rattle.model.specs.Setup.{setup}
use Rattle.model.specs.declared.Setup.{Setup}

module _ (s : Setup) where
  -- the setup with the tension L'
  abbrev pub with_tension : ℕ → Setup
  with_tension L' = record {
    segments = s.segments;
    tension = L';
    stiffness = s.stiffness;
    viscous = s.viscous;
    plain = s.plain;
    finger = s.finger;
    pluck_place = s.pluck_place;
    bridge_place = s.bridge_place;
    neck_place = s.neck_place;
  }

  -- the setup with the finger at the place p'
  abbrev pub with_place : ℕ → Setup
  with_place p' = record {
    segments = s.segments;
    tension = s.tension;
    stiffness = s.stiffness;
    viscous = s.viscous;
    plain = s.plain;
    finger = record { place = p'; stiffness = s.finger.stiffness; mass = s.finger.mass };
    pluck_place = s.pluck_place;
    bridge_place = s.bridge_place;
    neck_place = s.neck_place;
  }

  -- both are examined as a setup is, with the new value in place of the old
  unfoldable pub bend : ℕ → Answer Setup
  bend L' = setup (with_tension L')

  unfoldable pub slide : ℕ → Answer Setup
  slide p' = setup (with_place p')
