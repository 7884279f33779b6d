use Rattle.std.proofs.Common.{◌++◌, sym, ◌∙◌}
use Rattle.script_lines.specs.Fields.{names_of}
use Rattle.script_lines.proofs.FieldLemmas.{keys_among-members_view, has_only-as_object}
use Rattle.script_lines.proofs.fields.has_only.Goals as goal

pub returns-in-Some : goal.returns-in-Some
returns-in-Some c =
    let names = names_of c.args.common.now ++ names_of c.args.names.now in
    let same = keys_among-members_view names c.in-Some.members.now.entries in
    c.are_names.ensures ∙ sym same ∙ sym (has_only-as_object names _ _ (sym c.in-Some.ensures))
