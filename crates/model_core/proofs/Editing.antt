-- An accepted change: what it leads to, and what the flat document has then.
use Rattle.std.proofs.Common.{◌≡◌, ℕ, ◌+◌, ◌-◌, ◌≤◌, false, true, nat_lt, nat_le, List, length, map, Ok, Option, Some, refl, ap, sym, subst, ◌∙◌, arith}
use Rattle.std.specs.List.{All}
use Rattle.std.proofs.lemmas.Bool.{lt-leb, le-ltb}
use Rattle.std.proofs.lemmas.List.{take_all}
use Rattle.unit_text.specs.declared.kind.Kind.{Kind}
use Rattle.unit_text.specs.Kinds.{normalized, IsOfKind}
use Rattle.unit_text.specs.Units.{IsPaired}
use Rattle.text_rules.specs.declared.Op.{Op}
use Rattle.batch_rules.specs.Batches.{most_units, checked_batch, ops_in, applied_from}
use Rattle.batch_rules.proofs.Standing.{accepted}
use Rattle.batch_rules.proofs.Keeping.{keeps_kind, keeps_kind_back}
use Rattle.batch_rules.proofs.Pairs.{IsPaired-applied, HasPairedText}
use Rattle.batch_rules.proofs.Order.{All-sorted_ops}
use Rattle.text_rules.specs.Lines.{Line, lines_of}
use Rattle.decoration_rules.specs.LineMoves.{HaveSameContents}
use Rattle.decoration_rules.specs.Recasts.{RecastState}
use Rattle.decoration_rules.proofs.Contents.{contents-normalized}
use Rattle.undo_rules.specs.Stack.{Stack}
use Rattle.snapshot_rules.specs.Snapshots.{FlatShelf}
use Rattle.document_rules.specs.Document.{FlatText, greatest_version, is_same_kind, flat_edit, flat_eol}
use Rattle.document_rules.proofs.PairedEndings.{paired_texts_in}
use Rattle.text_batches.specs.Needs.{need_of_ops}
use Rattle.model_page.specs.declared.change.Change.{Change}
use Rattle.model_page.specs.declared.change.Change.TheVariants.{Ops, Endings}
use Rattle.model_page.specs.declared.change.Way.TheVariants.{On}
use Rattle.model_page.specs.Carrying.{decorations_over}
use Rattle.batch_rules.specs.Events.{whole_op}
use Rattle.model_page.specs.Changes.{text_from, text_to, led, ops_by, Leads}
use Rattle.model_page.specs.State.{PageState, flat_text, HasRoom, CanFollow}
use Rattle.model_page.proofs.Recasts.{applied-whole}
use Rattle.hiding_rules.specs.Hidden.{Scanner}
use Rattle.decoration_rules.specs.Decorations.{Decorations}
use Rattle.model_core.specs.declared.latest.Latest.{Latest}
use Rattle.model_core.specs.declared.latest.Latest.TheVariants.{Made}
use Rattle.model_core.specs.History.{kept_with}
use Rattle.model_core.specs.Prepared.{IsBatchOf, IsRecastOf, IsChangeOf, Makes}
use Rattle.model_core.proofs.Histories.{history-pushed, history-alone}
use Rattle.model_core.proofs.LastChanges.{last-kept}
use Rattle.model_core.proofs.Stepping.{document_of}

-- ---- what it leads to

batch_leads : (text : FlatText) (ops inverse : List Op) → IsBatchOf text ops inverse → IsOfKind text.kind text.units → length text.units ≤ most_units
    → Leads text (Ops ops inverse) (led On (Ops ops inverse) text)
batch_leads text ops inverse is endings fits =
    let ok = accepted text.kind text.units (ops_in text.kind ops) ops is.accepted in
    record {
      standing = ok.standing;
      on = refl;
      inverse = is.back;
      fits_before = fits;
      fits_after = ok.fits;
      kinds = (
        keeps_kind text.kind text.units ops ops is.accepted endings,
        rw is.back (keeps_kind_back text.kind text.units ops ops is.accepted endings),
      );
    }

-- one text and another, whole
whole_leads : (r : RecastState) → HaveSameContents r.before r.after → length r.before ≤ most_units → length r.after ≤ most_units
    → Leads (text_from On r) (Endings r) (text_to On r)
whole_leads r same fits_before fits_after =
    let end : 0 + length r.after ≡ length r.after = omega arith in record {
      standing = (omega arith, omega arith, omega arith);
      on = rw (applied-whole r.before r.after) refl;
      inverse = rw (take_all (length r.before - 0) r.before (omega arith), end) refl;
      fits_before = fits_before;
      fits_after = fits_after;
      kinds = (refl, refl, same);
    }

pub change_leads : (text : FlatText) (c : Change) → IsChangeOf text c → IsOfKind text.kind text.units → length text.units ≤ most_units
    → length (led On c text).units ≤ most_units → Leads text c (led On c text)
change_leads text (Ops ops inverse) is endings fits after = batch_leads text ops inverse is endings fits
change_leads text (Endings r) is endings fits after =
    let before : length r.before ≤ most_units = omega (arith, ap (λ (t : FlatText). length t.units) is.before, fits) in
    let there : applied_from 0 text.units (whole_op r.before r.after) ≡ r.after =
    ap (λ (t : FlatText). applied_from 0 t.units (whole_op r.before r.after)) (sym is.before) ∙ applied-whole r.before r.after in
    let same : HaveSameContents r.before r.after =
    ap (λ (t : FlatText). map (λ (line : Line). line.content) (lines_of t.units)) is.before ∙ contents-normalized r.to text.units
    ∙ ap (λ (t : FlatText). map (λ (line : Line). line.content) (lines_of t.units)) (sym is.after) in
    let leads : Leads text (Endings r) (text_to On r) =
    subst (λ (t : FlatText). Leads t (Endings r) (text_to On r)) is.before (whole_leads r same before (omega (arith, ap length there, after))) in
    subst (λ (t : FlatText). Leads text (Endings r) t) leads.on leads

-- a page can be led along it
pub can_follow_change : (page : PageState) (c : Change) → IsChangeOf (flat_text page.text) c → IsOfKind page.text.kind page.text.units
    → HasRoom page (need_of_ops (ops_by On c)) → CanFollow On page c
can_follow_change page (Ops ops inverse) is endings room =
    let ok = accepted page.text.kind page.text.units (ops_in page.text.kind ops) ops is.accepted in
    record { standing = ok.standing; fits = ok.fits; keeps = keeps_kind page.text.kind page.text.units ops ops is.accepted endings; room = room }
can_follow_change page (Endings r) is endings room = (is.before, room)

-- ---- what the flat document has then

batch_document : (text : FlatText) (ops inverse : List Op) → IsBatchOf text ops inverse → Leads text (Ops ops inverse) (led On (Ops ops inverse) text)
    → (latest : Option Latest) (s : Stack Change) (d : Decorations) (scanner : Scanner) (shelf : FlatShelf) (version alternative : ℕ) → version + 1 ≤ greatest_version
    → flat_edit (document_of text version alternative d scanner shelf latest s) ops
    ≡ Ok (document_of (led On (Ops ops inverse) text) (version + 1) (version + 1) (decorations_over true On (Ops ops inverse) d) scanner shelf (Some Made)
    (kept_with s (Ops ops inverse) alternative (version + 1)))
batch_document text ops inverse is leads latest s d scanner shelf version alternative few =
    let below : nat_le greatest_version version ≡ false = lt-leb greatest_version version (omega (arith, few)) in
    let history = history-pushed s (Ops ops inverse) text (led On (Ops ops inverse) text) alternative (version + 1) leads in
    let last = last-kept s (Ops ops inverse) text (led On (Ops ops inverse) text) alternative (version + 1) leads in
    rw (is.accepted, below, history, last) refl

recast_document : (x : List ℕ) (from to : Kind) → is_same_kind to from ≡ false → length (normalized to x) ≤ most_units
    → (latest : Option Latest) (s : Stack Change) (d : Decorations) (scanner : Scanner) (shelf : FlatShelf) (version alternative : ℕ) → version + 1 ≤ greatest_version
    → let c : Change = Endings (record { before = x; from = from; after = normalized to x; to = to }) in
    let text : FlatText = record { units = x; kind = from } in
    Leads text c (led On c text)
    → flat_eol (document_of text version alternative d scanner shelf latest s) to
    ≡ Ok (Some (document_of (led On c text) (version + 1) (version + 1) (decorations_over true On c d) scanner shelf (Some Made) (kept_with s c alternative (version + 1))))
recast_document x from to other fits latest s d scanner shelf version alternative few leads =
    let y : List ℕ = normalized to x in
    let c : Change = Endings (record { before = x; from = from; after = y; to = to }) in
    let text : FlatText = record { units = x; kind = from } in
    let short : nat_lt most_units (length y) ≡ false = le-ltb most_units (length y) fits in
    let below : nat_le greatest_version version ≡ false = lt-leb greatest_version version (omega (arith, few)) in
    let history = history-alone s c text (led On c text) alternative (version + 1) leads in
    let last = last-kept s c text (led On c text) alternative (version + 1) leads in
    rw (other, short, below, history, last, applied-whole x y) refl

-- a recast of the text is the one that the rule makes
same_recast : (text : FlatText) (r : RecastState) → IsRecastOf text r
    → r ≡ record { before = text.units; from = text.kind; after = normalized r.to text.units; to = r.to }
same_recast text r is =
    let after : r.after ≡ normalized r.to text.units = ap (λ (t : FlatText). t.units) is.after in
    ap (λ (t : FlatText). record { before = t.units; from = t.kind; after = r.after; to = r.to }) is.before
    ∙ ap (λ (y : List ℕ). record { before = text.units; from = text.kind; after = y; to = r.to }) after

pub made_document : (text : FlatText) (c : Change) → IsChangeOf text c → Leads text c (led On c text)
    → (latest : Option Latest) (s : Stack Change) (d : Decorations) (scanner : Scanner) (shelf : FlatShelf) (version alternative : ℕ) → version + 1 ≤ greatest_version
    → Makes c (document_of text version alternative d scanner shelf latest s)
    (document_of (led On c text) (version + 1) (version + 1) (decorations_over true On c d) scanner shelf (Some Made) (kept_with s c alternative (version + 1)))
made_document text (Ops ops inverse) is leads latest s d scanner shelf version alternative few =
    batch_document text ops inverse is leads latest s d scanner shelf version alternative few
made_document text (Endings r) is leads latest s d scanner shelf version alternative few =
    let same = same_recast text r is in
    let r' : RecastState = record { before = text.units; from = text.kind; after = normalized r.to text.units; to = r.to } in
    let leads' : Leads text (Endings r') (led On (Endings r') text) = subst (λ (q : RecastState). Leads text (Endings q) (led On (Endings q) text)) same leads in
    subst (λ (q : RecastState). flat_eol (document_of text version alternative d scanner shelf latest s) r.to
    ≡ Ok (Some (document_of (led On (Endings q) text) (version + 1) (version + 1) (decorations_over true On (Endings q) d) scanner shelf (Some Made) (kept_with s (Endings q) alternative (version + 1)))))
    (sym same)
    (recast_document text.units text.kind r.to is.other (omega (arith, leads'.fits_after, ap length (applied-whole text.units (normalized r.to text.units))))
    latest s d scanner shelf version alternative few leads')

pub edited_paired : (text : FlatText) (ops sorted : List Op) → checked_batch text.kind text.units ops ≡ Ok sorted → IsPaired text.units → All HasPairedText ops
    → IsPaired (applied_from 0 text.units sorted)
edited_paired text ops sorted rule paired texts =
    let ok = accepted text.kind text.units (ops_in text.kind ops) sorted rule in
    IsPaired-applied text.kind text.units sorted ok.standing ok.good
    (rw ok.in_order (All-sorted_ops HasPairedText (ops_in text.kind ops) (paired_texts_in text.kind ops texts))) paired
