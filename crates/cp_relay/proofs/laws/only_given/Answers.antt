use Rattle.cp_relay.proofs.Given.{only_given as given_alone, released_is_free}
use Rattle.cp_relay.proofs.Shared.{passes_marks, gains_no_mark}
use Rattle.cp_relay.proofs.laws.only_given.Goals as goal

pub returns-clause-given : goal.returns-clause-given
returns-clause-given c = given_alone

pub returns-clause-freed : goal.returns-clause-freed
returns-clause-freed c = released_is_free

pub returns-clause-passes : goal.returns-clause-passes
returns-clause-passes c = passes_marks

pub returns-clause-gains : goal.returns-clause-gains
returns-clause-gains c = gains_no_mark
