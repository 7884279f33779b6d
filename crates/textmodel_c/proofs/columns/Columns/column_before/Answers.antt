use Rattle.std.proofs.Common.{◌≡◌, ◌+◌, ◌≤◌, ◌-◌, None, Some, length, drop, sym, ap, ◌∙◌, arith, rules}
use Rattle.column_encodings.specs.Columns.{column_in}
use Rattle.textmodel_c.proofs.ColumnBounds.{column_within}
use Rattle.textmodel_c.proofs.Further.{further_on, further_before}
use Rattle.textmodel_c.proofs.columns.Columns.column_before.Goals as goal

pub returns-in_err-more-clause-column : goal.returns-in_err-more-clause-column
returns-in_err-more-clause-column c =
    let it = c.args.self.now in
    let rest : c.split_at.result.1.now ≡ drop it.before it.content.items = search rules in
    let behind : it.before ≤ c.args.before = omega (arith, c.if-before-self.false) in
    let within : c.args.before ≤ length it.content.items = omega (arith, c.if-before-len.false, c.len.ensures) in
    let between = sym (c.in_err-more.was) ∙ c.column_in.ensures ∙ ap (λ units. column_in it.encoding units (c.args.before - it.before)) rest in
    c.from_residual.ensures ∙ sym (further_before it.encoding it.content.items it.before it.column c.args.before None c.requires behind within between)

pub overflow_add-self : goal.overflow_add-self
overflow_add-self c =
    let it = c.args.self.now in
    let rest : c.split_at.result.1.now ≡ drop it.before it.content.items = search rules in
    let behind : it.before ≤ c.args.before = omega (arith, c.if-before-self.false) in
    let between = sym (c.in_ok-more.was) ∙ c.column_in.ensures ∙ ap (λ units. column_in it.encoding units (c.args.before - it.before)) rest in
    let column = further_on it.encoding it.content.items it.before it.column c.args.before (Some c.in_ok-more.more) c.requires behind between in
    omega (arith, column_within it.encoding it.content.items c.args.before (it.column + c.in_ok-more.more) column, c.len.ensures, c.deref-2.ensures.len)

pub returns-clause-column : goal.returns-clause-column
returns-clause-column c =
    let it = c.args.self.now in
    let rest : c.split_at.result.1.now ≡ drop it.before it.content.items = search rules in
    let behind : it.before ≤ c.args.before = omega (arith, c.if-before-self.false) in
    let within : c.args.before ≤ length it.content.items = omega (arith, c.if-before-len.false, c.len.ensures) in
    let between = sym (c.in_ok-more.was) ∙ c.column_in.ensures ∙ ap (λ units. column_in it.encoding units (c.args.before - it.before)) rest in
    sym (further_before it.encoding it.content.items it.before it.column c.args.before (Some c.in_ok-more.more) c.requires behind within between)

pub returns-clause-small : goal.returns-clause-small
returns-clause-small c =
    let it = c.args.self.now in
    let rest : c.split_at.result.1.now ≡ drop it.before it.content.items = search rules in
    let behind : it.before ≤ c.args.before = omega (arith, c.if-before-self.false) in
    let between = sym (c.in_ok-more.was) ∙ c.column_in.ensures ∙ ap (λ units. column_in it.encoding units (c.args.before - it.before)) rest in
    let column = further_on it.encoding it.content.items it.before it.column c.args.before (Some c.in_ok-more.more) c.requires behind between in
    omega (arith, column_within it.encoding it.content.items c.args.before (it.column + c.in_ok-more.more) column, c.len.ensures, c.deref-2.ensures.len)

pub returns-clause-place : goal.returns-clause-place
returns-clause-place c =
    let it = c.args.self.now in
    let rest : c.split_at.result.1.now ≡ drop it.before it.content.items = search rules in
    let behind : it.before ≤ c.args.before = omega (arith, c.if-before-self.false) in
    let between = sym (c.in_ok-more.was) ∙ c.column_in.ensures ∙ ap (λ units. column_in it.encoding units (c.args.before - it.before)) rest in
    further_on it.encoding it.content.items it.before it.column c.args.before (Some c.in_ok-more.more) c.requires behind between
