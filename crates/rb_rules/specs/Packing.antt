-- The code of a node.
use Rattle.std.specs.Prelude.{ℕ, Bool, Option, refl}
use Rattle.std.specs.Coded.{Coded, code_by, coded×, coded_ℕ, coded_bool, coded_option}
use Rattle.rb_rules.specs.declared.slot.Slot.{Slot}

module _ {D : Type 0} where
  abbrev pub slot_code : Coded D → Coded (Slot D)
  slot_code c =
      let link = coded_option coded_ℕ in
      code_by (Option ℕ × (Option ℕ × (Option ℕ × (Bool × D)))) (coded× link (coded× link (coded× link (coded× coded_bool c))))
      (λ s. (s.parent, (s.left, (s.right, (s.red, s.«data»)))))
      (λ p. record { parent = p.0; left = p.1.0; right = p.1.1.0; red = p.1.1.1.0; «data» = p.1.1.1.1 }) (λ _. refl)
