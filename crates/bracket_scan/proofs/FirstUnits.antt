-- A unit of a class without first units begins no text of the table.
use Rattle.std.proofs.Common.{◌≡◌, ℕ, suc, ◌%◌, Bool, true, false, ◌&&◌, ◌||◌, None, List, [], ◌∷◌, refl, arith}
use Rattle.std.specs.Prelude.{slice_index_or}
use Rattle.std.specs.List.{list_all, list_any}
use Rattle.std.proofs.lemmas.Bool.{and_parts, agree_below_at}
use Rattle.bracket_rules.specs.Table.{Table, texts_of, is_bracket_text, is_table, standard_table, standing, longest}
use Rattle.bracket_rules.proofs.Tokens.{has_texts}
use Rattle.bracket_scan.specs.declared.firsts.TheConstants.{CLASSES, STANDARD_FIRSTS}
use Rattle.bracket_scan.specs.Firsts.{begins_in_class, may_begin, Indexes}
use Rattle.bracket_scan.proofs.Buckets.{not_standing, other_remainder}

-- what the index says of a unit
pub index_says : (pairs : Table) (firsts : List Bool) (unit : ℕ) (other : Bool) → Indexes pairs firsts
    → slice_index_or firsts (unit % CLASSES) other ≡ may_begin pairs unit
index_says pairs firsts unit other h = h.each (unit % CLASSES) other (omega arith)

pub standard_is_indexed : Indexes standard_table STANDARD_FIRSTS
standard_is_indexed = record {
  all = refl;
  each = λ class other below.
      agree_below_at (λ n. slice_index_or STANDARD_FIRSTS n other) (λ n. list_any (begins_in_class n) (texts_of standard_table)) 256 class refl below;
}

-- ---- no text begins

text_of_other_class : (at kind : ℕ) (opening : Bool) (text : List ℕ) (u : ℕ) (units : List ℕ)
    → is_bracket_text text ≡ true → begins_in_class (u % CLASSES) text ≡ false → standing at kind opening text (u ∷ units) ≡ None
text_of_other_class at kind opening [] u units h k = cc
text_of_other_class at kind opening (v ∷ text) u units h k = not_standing at kind opening v text u units (other_remainder CLASSES v u k)

or_parts : (a b : Bool) → (a || b) ≡ false → (a ≡ false) × (b ≡ false)
or_parts true b h = cc
or_parts false b h = (refl, h)

none_begins-from : (at kind u : ℕ) (ps : Table) (units : List ℕ) → list_all is_bracket_text (texts_of ps) ≡ true
    → list_any (begins_in_class (u % CLASSES)) (texts_of ps) ≡ false → longest at kind ps (u ∷ units) ≡ None
none_begins-from at kind u [] units h k = refl
none_begins-from at kind u (p ∷ ps) units h k =
    let begins : List ℕ → Bool = begins_in_class (u % CLASSES) in
    let texts = and_parts (is_bracket_text p.0) (is_bracket_text p.1 && list_all is_bracket_text (texts_of ps)) h in
    let others = and_parts (is_bracket_text p.1) (list_all is_bracket_text (texts_of ps)) texts.1 in
    let none = or_parts (begins p.0) (begins p.1 || list_any begins (texts_of ps)) k in
    let none' = or_parts (begins p.1) (list_any begins (texts_of ps)) none.1 in
    let first = text_of_other_class at kind true p.0 u units texts.0 none.0 in
    let second = text_of_other_class at kind false p.1 u units others.0 none'.0 in
    let rest = none_begins-from at (suc kind) u ps units others.1 none'.1 in
    rw (first, second, rest) refl

pub none_begins : (at u : ℕ) (table : Table) (units : List ℕ) → is_table table ≡ true → may_begin table u ≡ false
    → longest at 0 table (u ∷ units) ≡ None
none_begins at u table units h k = none_begins-from at 0 u table units (has_texts table h) k
