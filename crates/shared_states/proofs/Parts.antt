-- Parts of runs and of joined lists.
use Rattle.std.proofs.Common.{◌≡◌, ℕ, ◌+◌, ◌-◌, ◌≤◌, List, ◌++◌, length, take, drop, sym, ◌∙◌, ap, arith}
use Rattle.std.specs.Prelude.{replicate}
use Rattle.std.proofs.lemmas.List.{length-replicate, replicate-append-replicate, take-replicate, drop-replicate}
use Rattle.std.proofs.Math.Seq.{take-append-add, drop-append-add}
use Rattle.hiding_rules.specs.declared.LineState.{LineState}
use Rattle.shared_states.specs.declared.node.Link.{Link}
use Rattle.shared_states.specs.declared.node.Link.TheVariants.{Run}
use Rattle.shared_states.specs.Shapes.{link_states}

pub two-runs : (left right : Link) (state other : LineState) (lines more : ℕ) → left ≡ Run state lines → right ≡ Run other more → state ≡ other
    → replicate (lines + more) state ≡ link_states left ++ link_states right
two-runs left right state other lines more first second same =
    sym (
    ap (λ l. link_states l ++ link_states right) first
    ∙ ap (λ r. replicate lines state ++ link_states r) second
    ∙ ap (λ (s : LineState). replicate lines state ++ replicate more s) (sym same)
    ∙ replicate-append-replicate lines more state
    )

pub first-of_run : (link : Link) (state : LineState) (all lines : ℕ) → link ≡ Run state all → lines ≤ length (link_states link)
    → replicate lines state ≡ take lines (link_states link)
first-of_run link state all lines is within =
    let size : length (link_states link) ≡ all = ap (λ l. length (link_states l)) is ∙ length-replicate all state in
    sym (ap (λ l. take lines (link_states l)) is ∙ take-replicate lines all state (omega (arith, size, within)))

pub rest-of_run : (link : Link) (state : LineState) (all lines : ℕ) → link ≡ Run state all → replicate (all - lines) state ≡ drop lines (link_states link)
rest-of_run link state all lines is = sym (ap (λ l. drop lines (link_states l)) is ∙ drop-replicate lines all state)

pub first-of_both : (left right : List LineState) (lines before : ℕ) → before ≡ length left → before ≤ lines
    → take lines (left ++ right) ≡ left ++ take (lines - before) right
first-of_both left right lines before size reach =
    let sum : lines ≡ length left + (lines - before) = omega arith in
    ap (λ n. take n (left ++ right)) sum ∙ take-append-add left right (lines - before)

pub rest-of_both : (left right : List LineState) (lines before : ℕ) → before ≡ length left → before ≤ lines
    → drop lines (left ++ right) ≡ drop (lines - before) right
rest-of_both left right lines before size reach =
    let sum : lines ≡ length left + (lines - before) = omega arith in
    ap (λ n. drop n (left ++ right)) sum ∙ drop-append-add left right (lines - before)
