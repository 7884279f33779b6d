-- Decorations stay within the text after edits and after changes of decorations.
use Rattle.std.proofs.Common.{◌≡◌, ℕ, ◌+◌, ◌-◌, ◌<◌, ◌≤◌, false, not, ◌&&◌, ◌||◌, cond, ltb, leb, eqb, inl, inr, List, [], ◌∷◌, ◌++◌, length, map, Result, Ok, Err, sym, ◌∙◌, subst, arith}
use Rattle.std.specs.List.{list_any, All}
use Rattle.std.proofs.lemmas.Bool.{or_parts, and_parts, ltb-false, leb-true, not-false, cases_Bool, cond-true, cond-false}
use Rattle.std.proofs.lemmas.List.Elements.{All-nil, All-cons, All-append, All-filter}
use Rattle.unit_text.specs.declared.kind.Kind.{Kind}
use Rattle.unit_text.specs.Kinds.{is_place_in, cuts_in}
use Rattle.decoration_rules.specs.declared.TheConstants.{GREATEST_MODE}
use Rattle.decoration_rules.specs.declared.Edit.{Edit}
use Rattle.decoration_rules.specs.declared.Mark.{Mark}
use Rattle.decoration_rules.specs.declared.NewDeco.{NewDeco}
use Rattle.decoration_rules.specs.Refusals.{DecoRefusal, unknown, range, limit}
use Rattle.decoration_rules.specs.Moves.{offset_limit, removed, moved_mark, IsSpanIn, LieIn}
use Rattle.decoration_rules.specs.Marks.{in_order}
use Rattle.decoration_rules.specs.Decorations.{Decorations, decorated, is_unknown, is_bad, is_too_much, kept, new_mark, new_marks}
use Rattle.decoration_rules.proofs.MoveLemmas.{moved-within}
use Rattle.decoration_rules.proofs.OrderLemmas.{Has, All-has, has-All}
use Rattle.decoration_rules.proofs.MarkLists.{Has-from_map, All-in_order}

pub LieIn-in_order : (len : ℕ) (marks : List Mark) → LieIn len marks → LieIn len (in_order marks)
LieIn-in_order len marks lie = All-in_order (λ (m : Mark). IsSpanIn m.span len) marks lie

-- An edit of the text.

pub LieIn-map_moved : (edit : Edit) (marks : List Mark) (len : ℕ) → LieIn len marks → edit.start ≤ edit.end → edit.end ≤ len
    → LieIn (len - removed edit + edit.units) (map (moved_mark edit) marks)
LieIn-map_moved edit marks len lie upright_edit edit_in =
    All-has (λ (m : Mark). IsSpanIn m.span (len - removed edit + edit.units)) (map (moved_mark edit) marks) (λ q has.
    let source : (m : Mark) × Has marks m × (moved_mark edit m ≡ q) = Has-from_map (moved_mark edit) marks q has in
    subst (λ (m : Mark). IsSpanIn m.span (len - removed edit + edit.units)) source.2
    (moved-within source.0.span source.0.sticky source.0.collapse edit len (has-All (λ (m : Mark). IsSpanIn m.span len) marks source.0 lie source.1) upright_edit edit_in))

-- after the edit they lie within the new text
pub LieIn-moved : (edit : Edit) (marks : List Mark) (len : ℕ) → LieIn len marks → edit.start ≤ edit.end → edit.end ≤ len
    → LieIn (len - removed edit + edit.units) (in_order (map (moved_mark edit) marks))
LieIn-moved edit marks len lie upright_edit edit_in =
    LieIn-in_order (len - removed edit + edit.units) (map (moved_mark edit) marks) (LieIn-map_moved edit marks len lie upright_edit edit_in)

-- no offset reaches the limit if the length of the new text is below it
pub moved_mark-fits : (edit : Edit) (marks : List Mark) (len : ℕ) → LieIn len marks → edit.start ≤ edit.end → edit.end ≤ len → len - removed edit + edit.units < offset_limit
    → All (λ (mark : Mark). (moved_mark edit mark).span.end < offset_limit) marks
moved_mark-fits edit marks len lie upright_edit edit_in fits =
    All-has (λ (mark : Mark). (moved_mark edit mark).span.end < offset_limit) marks (λ q has.
    let inside : IsSpanIn (moved_mark edit q).span (len - removed edit + edit.units) =
    moved-within q.span q.sticky q.collapse edit len (has-All (λ (m : Mark). IsSpanIn m.span len) marks q lie has) upright_edit edit_in in
    omega (arith, inside.within, fits))

-- A change of the decorations.

pub record IsNewIn (new : NewDeco) (len : ℕ) : Type 0 where
  pub span : IsSpanIn new.span len
  pub mode : new.stick ≤ GREATEST_MODE

pub IsNewIn-from_good : (kind : Kind) (units : List ℕ) (new : NewDeco) → is_bad kind units new ≡ false → IsNewIn new (length units)
IsNewIn-from_good kind units new good =
    let first = or_parts (ltb new.span.end new.span.start || not (is_place_in kind units new.span.start && is_place_in kind units new.span.end)) (ltb GREATEST_MODE new.stick) good in
    let second = or_parts (ltb new.span.end new.span.start) (not (is_place_in kind units new.span.start && is_place_in kind units new.span.end)) first.0 in
    let places = and_parts (is_place_in kind units new.span.start) (is_place_in kind units new.span.end) (not-false (is_place_in kind units new.span.start && is_place_in kind units new.span.end) second.1) in
    record {
      span = record {
        upright = ltb-false new.span.end new.span.start second.0;
        within = leb-true new.span.end (length units) (and_parts (leb new.span.end (length units)) (not (cuts_in kind units new.span.end)) places.1).0;
      };
      mode = ltb-false GREATEST_MODE new.stick first.1;
    }

pub LieIn-new_marks : (kind : Kind) (units : List ℕ) (owner id : ℕ) (add : List NewDeco) → list_any (is_bad kind units) add ≡ false → LieIn (length units) (new_marks owner id add)
LieIn-new_marks kind units owner id [] good = All-nil (λ (m : Mark). IsSpanIn m.span (length units))
LieIn-new_marks kind units owner id (new ∷ more) good =
    let parts = or_parts (is_bad kind units new) (list_any (is_bad kind units) more) good in
    All-cons (λ (m : Mark). IsSpanIn m.span (length units)) (new_mark owner id new) (new_marks owner (id + 1) more)
    (IsNewIn-from_good kind units new parts.0).span (LieIn-new_marks kind units owner (id + 1) more parts.1)

-- the conditions under which a change is accepted, and its result
pub record IsAccepted (d : Decorations) (owner : ℕ) (ids : List ℕ) (add : List NewDeco) (kind : Kind) (units : List ℕ) (new : Decorations) : Type 0 where
  pub known : is_unknown d.marks owner ids ≡ false
  pub good : list_any (is_bad kind units) add ≡ false
  pub few : is_too_much d ids (length add) ≡ false
  pub is : new ≡ record { marks = in_order (kept d.marks ids ++ new_marks owner d.next_id add); next_id = d.next_id + length add }

pub accepted : (d : Decorations) (owner : ℕ) (ids : List ℕ) (add : List NewDeco) (kind : Kind) (units : List ℕ) (new : Decorations)
    → decorated d owner ids add kind units ≡ Ok new → IsAccepted d owner ids add kind units new
accepted d owner ids add kind units new is =
    elim (cases_Bool (is_unknown d.marks owner ids)) [
      | inl named_wrong ↦ (let refused : Err unknown ≡ Ok new = sym (cond-true (is_unknown d.marks owner ids) (Err unknown) after_known named_wrong) ∙ is in cc)
      | inr known ↦ elim (cases_Bool (list_any (is_bad kind units) add)) [
        | inl bad ↦ (let refused : Err range ≡ Ok new =
            sym (cond-true (list_any (is_bad kind units) add) (Err range) after_good bad) ∙ sym (cond-false (is_unknown d.marks owner ids) (Err unknown) after_known known) ∙ is in cc)
        | inr good ↦ elim (cases_Bool (is_too_much d ids (length add))) [
          | inl much ↦ (let refused : Err limit ≡ Ok new =
              sym (cond-true (is_too_much d ids (length add)) (Err limit) (Ok made) much) ∙ sym (cond-false (list_any (is_bad kind units) add) (Err range) after_good good)
              ∙ sym (cond-false (is_unknown d.marks owner ids) (Err unknown) after_known known) ∙ is in cc)
          | inr few ↦
              let result : Ok made ≡ Ok new =
              sym (cond-false (is_too_much d ids (length add)) (Err limit) (Ok made) few) ∙ sym (cond-false (list_any (is_bad kind units) add) (Err range) after_good good)
              ∙ sym (cond-false (is_unknown d.marks owner ids) (Err unknown) after_known known) ∙ is in
              record { known = known; good = good; few = few; is = cc }
        ]
      ]
    ]
  where
    made : Decorations
    made = record { marks = in_order (kept d.marks ids ++ new_marks owner d.next_id add); next_id = d.next_id + length add }

    after_good : Result Decorations DecoRefusal
    after_good = cond (is_too_much d ids (length add)) (Err limit) (Ok made)

    after_known : Result Decorations DecoRefusal
    after_known = cond (list_any (is_bad kind units) add) (Err range) after_good

pub LieIn-decorated : (d : Decorations) (owner : ℕ) (ids : List ℕ) (add : List NewDeco) (kind : Kind) (units : List ℕ) (new : Decorations)
    → decorated d owner ids add kind units ≡ Ok new → LieIn (length units) d.marks → LieIn (length units) new.marks
LieIn-decorated d owner ids add kind units new is lie =
    let change : IsAccepted d owner ids add kind units new = accepted d owner ids add kind units new is in
    subst (λ (e : Decorations). LieIn (length units) e.marks) (sym change.is)
    (LieIn-in_order (length units) (kept d.marks ids ++ new_marks owner d.next_id add)
    (All-append (λ (m : Mark). IsSpanIn m.span (length units)) (kept d.marks ids) (new_marks owner d.next_id add)
    (All-filter (λ mark. not (list_any (λ id. eqb mark.id id) ids)) (λ (m : Mark). IsSpanIn m.span (length units)) d.marks lie)
    (LieIn-new_marks kind units owner d.next_id add change.good)))
