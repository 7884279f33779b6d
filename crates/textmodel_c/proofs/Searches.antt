-- A text that is looked for has a unit or more.
use Rattle.std.proofs.Common.{◌≡◌, ◌<◌, ℕ, Bool, List, [], ◌∷◌, length, take, Ok, Err, refl, arith}
use Rattle.document_rules.specs.Refusals.{range}
use Rattle.document_rules.specs.Document.{FlatState}
use Rattle.group_rules.specs.Group.{FlatGroup, group_replace_all}
use Rattle.search_rules.specs.Replacing.{flat_find}
use Rattle.textmodel_c.specs.Rules.{found_list, flat_find_list, group_replace_some}

pub listed_where_some : (f : FlatState) (sought : List ℕ) (from : ℕ) (back : Bool) (most : ℕ) → 0 < length sought
    → flat_find_list f sought from back most ≡ Ok (take most (found_list from back (flat_find f sought)))
listed_where_some f [] from back most some = absurd (omega (arith, some))
listed_where_some f (u ∷ units) from back most some = refl

pub replaced_where_some : (doc : ℕ) (g : FlatGroup) (sought text : List ℕ) → 0 < length sought
    → group_replace_some doc sought text g ≡ group_replace_all g doc sought text
replaced_where_some doc g [] text some = absurd (omega (arith, some))
replaced_where_some doc g (u ∷ units) text some = refl

pub no_list_of_none : (f : FlatState) (sought : List ℕ) (from : ℕ) (back : Bool) (most : ℕ) → length sought ≡ 0
    → flat_find_list f sought from back most ≡ Err range
no_list_of_none f [] from back most none = refl
no_list_of_none f (u ∷ units) from back most none = absurd (omega (arith, none))

pub no_replace_of_none : (doc : ℕ) (g : FlatGroup) (sought text : List ℕ) → length sought ≡ 0 → group_replace_some doc sought text g ≡ Err range
no_replace_of_none doc g [] text none = refl
no_replace_of_none doc g (u ∷ units) text none = absurd (omega (arith, none))
