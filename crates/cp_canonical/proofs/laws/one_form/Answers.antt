use Rattle.cp_canonical.proofs.Forms.{messages_form, one_form}
use Rattle.cp_canonical.proofs.laws.one_form.Goals as goal

pub returns-clause-trees : goal.returns-clause-trees
returns-clause-trees c = one_form

pub returns-clause-messages : goal.returns-clause-messages
returns-clause-messages c = messages_form
