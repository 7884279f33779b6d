use Rattle.std.proofs.Common.{◌≡◌, ℕ, ◌+◌, ◌-◌, ◌≤◌, false, List, [], ◌∷◌, length, get_or, take, drop, ap, sym, ◌∙◌, subst, arith}
use Rattle.std.proofs.lemmas.List.{take_rest, nil_from_length}
use Rattle.text_lengths.specs.Length.{length_of}
use Rattle.bracket_rules.specs.declared.Token.{Token}
use Rattle.bracket_rules.specs.Table.{token, AreInLine}
use Rattle.bracket_tree_rules.specs.Tree.{text}
use Rattle.bracket_nodes.specs.declared.scanned.ScannedLine.{ScannedLine}
use Rattle.bracket_nodes.specs.Source.{Ahead, GivesNode, GivesBracket}
use Rattle.bracket_nodes.specs.ScannedLines.{ahead_of}
use Rattle.bracket_nodes.proofs.ScannedSteps.{split_first, at_token, token_fits, gives_gap, gives_bracket, gives_break}
use Rattle.bracket_nodes.proofs.scanned.ScannedTextSource.next.Goals as goal

none : Token
none = token 0 0 0 false

pub returns-then-self-token-clause-comes : goal.returns-then-self-token-clause-comes
unfolding none
returns-then-self-token-clause-comes c =
    let ts : List Token = c.self.inside.tokens.now in
    let t : Token = get_or ts 0 none in
    let split : ts ≡ t ∷ drop 1 ts = split_first ts none c.in-len1-up.len_at_least in
    let line : AreInLine c.self.inside.column c.self.inside.columns (t ∷ drop 1 ts) = rw split at c.self.invariant.0 in
    let from : AreInLine t.at c.self.inside.columns ts = rw split (at_token c.self.inside.column c.self.inside.columns t (drop 1 ts) line) in
    rw (← c.self.view_is, c.in_ok-node.ensures, c.wide.ensures)
    (gives_gap c.self.inside.column t.at c.self.inside.columns c.args._opened c.args._level ts c.self.inside.lines.now
    c.requires.level c.if-self-token.true from)

pub overflow_add-self : goal.overflow_add-self
unfolding none
overflow_add-self c =
    let ts : List Token = c.self.inside.tokens.now in
    let t : Token = get_or ts 0 none in
    let split : ts ≡ t ∷ drop 1 ts = split_first ts none c.in-len1-up.len_at_least in
    let line : AreInLine c.self.inside.column c.self.inside.columns (t ∷ drop 1 ts) = rw split at c.self.invariant.0 in
    let within : c.self.inside.column + t.len ≤ c.self.inside.columns =
    token_fits c.self.inside.column c.self.inside.columns t (drop 1 ts) c.if-self-token.false line in
    omega arith

pub returns-in-len1-up-clause-comes : goal.returns-in-len1-up-clause-comes
unfolding none
returns-in-len1-up-clause-comes c =
    let ts : List Token = c.self.inside.tokens.now in
    let t : Token = get_or ts 0 none in
    let column : ℕ = c.self.inside.column in
    let columns : ℕ = c.self.inside.columns in
    let lines : List ScannedLine = c.self.inside.lines.now in
    let split : ts ≡ t ∷ drop 1 ts = split_first ts none c.in-len1-up.len_at_least in
    let line : AreInLine column columns (t ∷ drop 1 ts) = rw split at c.self.invariant.0 in
    let given : GivesBracket (ahead_of column (t ∷ drop 1 ts) columns lines) (ahead_of (column + t.len) (drop 1 ts) columns lines) t.kind t.len t.opening =
    gives_bracket column columns t (drop 1 ts) lines c.if-self-token.false line in
    let from : GivesBracket (ahead_of column ts columns lines) (ahead_of (column + t.len) (drop 1 ts) columns lines) t.kind t.len t.opening =
    subst (λ (x : List Token). GivesBracket (ahead_of column x columns lines) (ahead_of (column + t.len) (drop 1 ts) columns lines) t.kind t.len t.opening) (sym split) given in
    let part : drop 1 ts ≡ take (length ts - 1) (drop 1 ts) = sym (take_rest ts 1) in
    subst (λ (a : Ahead). GivesBracket a (ahead_of (column + t.len) (take (length ts - 1) (drop 1 ts)) columns lines) t.kind t.len t.opening) c.self.view_is
    (subst (λ (x : List Token). GivesBracket (ahead_of column ts columns lines) (ahead_of (column + t.len) x columns lines) t.kind t.len t.opening) part from)

pub returns-in-len1-up-lines-clause-comes : goal.returns-in-len1-up-lines-clause-comes
returns-in-len1-up-lines-clause-comes c =
    let lines : List ScannedLine = c.self.inside.lines.now in
    let l : ScannedLine = c.line-item.result in
    let column : ℕ = c.self.inside.column in
    let columns : ℕ = c.self.inside.columns in
    let split : lines ≡ l ∷ drop 1 lines =
    split_first lines l c.in-len1-up-lines.len_at_least ∙ ap (λ (x : ScannedLine). x ∷ drop 1 lines) (sym c.line-item.is) in
    let empty : c.self.inside.tokens.now ≡ [] = nil_from_length c.self.inside.tokens.now (omega arith) in
    let given : GivesNode (ahead_of column [] columns (l ∷ drop 1 lines)) (ahead_of 0 l.tokens.items l.columns (drop 1 lines)) c.args._opened c.args._level (text (length_of 1 0)) =
    gives_break column columns c.args._opened c.args._level l (drop 1 lines) c.requires.level in
    let from : GivesNode (ahead_of column [] columns lines) (ahead_of 0 l.tokens.items l.columns (drop 1 lines)) c.args._opened c.args._level (text (length_of 1 0)) =
    subst (λ (x : List ScannedLine). GivesNode (ahead_of column [] columns x) (ahead_of 0 l.tokens.items l.columns (drop 1 lines)) c.args._opened c.args._level (text (length_of 1 0))) (sym split) given in
    let part : drop 1 lines ≡ take (length lines - 1) (drop 1 lines) = sym (take_rest lines 1) in
    let old : ahead_of column [] columns lines ≡ c.args.self.now =
    ap (λ (x : List Token). ahead_of column x columns lines) (sym empty) ∙ c.self.view_is in
    rw (c.in_ok-node-2.ensures, c.deref-self-inside.ensures.value)
    (subst (λ (a : Ahead). GivesNode a (ahead_of 0 l.tokens.items l.columns (take (length lines - 1) (drop 1 lines))) c.args._opened c.args._level (text (length_of 1 0))) old
    (subst (λ (x : List ScannedLine). GivesNode (ahead_of column [] columns lines) (ahead_of 0 l.tokens.items l.columns x) c.args._opened c.args._level (text (length_of 1 0))) part from))
