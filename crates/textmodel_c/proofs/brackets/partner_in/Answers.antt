use Rattle.textmodel_c.proofs.brackets.partner_in.Goals as goal

pub extent-requires : goal.extent-requires
extent-requires c = c.new.ensures.follows c.args.model.now.document
