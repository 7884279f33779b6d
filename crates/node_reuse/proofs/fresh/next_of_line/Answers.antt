use Rattle.std.proofs.Common.{◌≡◌, ℕ, suc, ◌+◌, ◌<◌, ◌≤◌, false, List, [], ◌∷◌, length, drop, refl, ap, sym, subst, arith}
use Rattle.text_lengths.specs.declared.Length.{Length}
use Rattle.text_lengths.specs.Length.{length_of}
use Rattle.bracket_rules.specs.declared.Token.{Token}
use Rattle.bracket_rules.specs.Table.{AreInLine}
use Rattle.bracket_nodes.proofs.ScannedSteps.{at_token, token_fits}
use Rattle.bracket_tree_rules.specs.Tree.{text}
use Rattle.bracket_nodes.specs.declared.parser.Next.TheVariants.{Ready}
use Rattle.node_reuse.specs.declared.line.Line.{Line}
use Rattle.node_reuse.specs.Reader.{tokens_left, ReadsOn}
use Rattle.bracket_nodes.specs.Paying.{PaysOn}
use Rattle.node_reuse.specs.Paying.{paying_at}
use Rattle.node_reuse.proofs.ReaderPays.{gap_pays_if, fresh_bracket_pays, fresh_break_pays}
use Rattle.node_reuse.proofs.FreshReader.{before_bracket, before_end, fresh_gap_if, fresh_bracket, fresh_break, fresh_end}
use Rattle.node_reuse.proofs.fresh.next_of_line.Goals as goal

in_line_as : (c n : ℕ) (ts us : List Token) → ts ≡ us → AreInLine c n ts → AreInLine c n us
in_line_as c n ts us e h = subst (AreInLine c n) e h

pub returns-then-place-token-clause-reads : goal.returns-then-place-token-clause-reads
returns-then-place-token-clause-reads c = λ s opened level room h last.
    let line : Line = c.args.line.now in
    let t : Token = c.in-Some.token in
    let parts = c.in-Some.ensures.some in
    let behind : AreInLine t.at line.columns (t ∷ drop (line.next + 1) line.tokens.items) =
    at_token c.args.place.now.columns line.columns t (drop (line.next + 1) line.tokens.items)
    (in_line_as c.args.place.now.columns line.columns (tokens_left line) (t ∷ drop (line.next + 1) line.tokens.items) parts c.requires.in_line) in
    fresh_gap_if c.gap.result s c.args.place.now c.gap.new.place line t.at opened level room h c.requires.scanned c.if-place-token.true
    (in_line_as t.at line.columns (t ∷ drop (line.next + 1) line.tokens.items) (tokens_left line) (sym parts) behind)
    (before_bracket t (drop (line.next + 1) line.tokens.items) (tokens_left line) _ parts)
    c.gap.ensures.gap c.gap.ensures.lines c.gap.ensures.column

pub overflow_add-place : goal.overflow_add-place
overflow_add-place c =
    let line : Line = c.args.line.now in
    let t : Token = c.in-Some.token in
    let rest = drop (line.next + 1) line.tokens.items in
    let parts = c.in-Some.ensures.some in
    let within : c.args.place.now.columns + t.len ≤ line.columns =
    token_fits c.args.place.now.columns line.columns t rest c.if-place-token.false
    (in_line_as c.args.place.now.columns line.columns (tokens_left line) (t ∷ rest) parts c.requires.in_line) in
    omega arith

pub returns-in-Some-clause-reads : goal.returns-in-Some-clause-reads
returns-in-Some-clause-reads c = λ s opened level room h last.
    let line : Line = c.args.line.now in
    let t : Token = c.in-Some.token in
    let to : Line = record line { next = line.next + 1 } in
    fresh_bracket s c.args.place.now line to t opened level h c.requires.scanned
    c.in-Some.ensures.some c.if-place-token.false c.requires.scanned refl refl

pub returns-then-not-last-clause-reads : goal.returns-then-not-last-clause-reads
returns-then-not-last-clause-reads c = λ s opened level room h last.
    let line : Line = c.args.line.now in
    let p : Length = c.args.place.now in
    let to : Line = record line { scanned = false } in
    let more : suc p.lines < length s.contents = rw c.if-not-last.true at last in
    let place : length_of (suc p.lines) 0 ≡ length_of (p.lines + 1) 0 = ap (λ (n : ℕ). length_of n 0) (omega arith) in
    rw c.in_ok-node.ensures
    (subst (λ (q : Length). ReadsOn s p line q to opened level (Ready (text (length_of 1 0)))) place
    (fresh_break s p line to opened level room h c.requires.scanned c.in_default.ensures.none more refl refl))

pub returns-then-place-columns-clause-reads : goal.returns-then-place-columns-clause-reads
returns-then-place-columns-clause-reads c = λ s opened level room h last.
    let line : Line = c.args.line.now in
    let none = c.in_default.ensures.none in
    let end : AreInLine line.columns line.columns (tokens_left line) = in_line_as line.columns line.columns [] (tokens_left line) (sym none) (omega arith) in
    fresh_gap_if c.gap-then-place-columns.result s c.args.place.now c.gap-then-place-columns.new.place line line.columns opened level room h c.requires.scanned
    c.if-place-columns.true end (before_end s c.args.place.now (tokens_left line) (let count : length s.contents ≡ suc c.args.place.now.lines = rw c.if-not-last.false at last in omega arith)) c.gap-then-place-columns.ensures.gap c.gap-then-place-columns.ensures.lines c.gap-then-place-columns.ensures.column

pub returns-clause-reads : goal.returns-clause-reads
returns-clause-reads c = λ s opened level room h last.
    let line : Line = c.args.line.now in
    let p : Length = c.args.place.now in
    let count : length s.contents ≡ suc p.lines = rw c.if-not-last.false at last in
    fresh_end s p line opened level h c.requires.scanned c.in_default.ensures.none (omega arith) c.if-place-columns.false

-- ---- what is paid

pub returns-then-place-token-clause-pays : goal.returns-then-place-token-clause-pays
returns-then-place-token-clause-pays c = λ s steps h.
    gap_pays_if c.gap.result s c.args.place.now c.gap.new.place c.args.line.now steps c.in-Some.token.at h c.requires.scanned
    c.gap.ensures.gap c.gap.ensures.lines c.gap.ensures.column

pub returns-in-Some-clause-pays : goal.returns-in-Some-clause-pays
returns-in-Some-clause-pays c = λ s steps h.
    let line : Line = c.args.line.now in
    let to : Line = record line { next = line.next + 1 } in
    fresh_bracket_pays s c.args.place.now line to c.in-Some.token steps h c.requires.scanned c.requires.scanned c.in-Some.ensures.some

pub returns-then-not-last-clause-pays : goal.returns-then-not-last-clause-pays
returns-then-not-last-clause-pays c = λ s steps h.
    let line : Line = c.args.line.now in
    let p : Length = c.args.place.now in
    let to : Line = record line { scanned = false } in
    let place : length_of (suc p.lines) 0 ≡ length_of (p.lines + 1) 0 = ap (λ (n : ℕ). length_of n 0) (omega arith) in
    subst (λ (q : Length). PaysOn (paying_at s steps p line) (paying_at s steps q to)) place
    (fresh_break_pays s p line to steps h c.requires.scanned refl c.in_default.ensures.none)

pub returns-then-place-columns-clause-pays : goal.returns-then-place-columns-clause-pays
returns-then-place-columns-clause-pays c = λ s steps h.
    gap_pays_if c.gap-then-place-columns.result s c.args.place.now c.gap-then-place-columns.new.place c.args.line.now steps c.args.line.now.columns h c.requires.scanned
    c.gap-then-place-columns.ensures.gap c.gap-then-place-columns.ensures.lines c.gap-then-place-columns.ensures.column
