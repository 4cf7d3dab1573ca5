-- What goes from one session of a host to another.
use Rattle.std.specs.Prelude.{Option, Some, None}
use Rattle.cp_objects.specs.declared.letters.Caller.{Caller}
use Rattle.cp_objects.specs.declared.letters.Letter.{Letter}
use Rattle.cp_objects.specs.declared.letters.LetterBody.{LetterBody}
use Rattle.cp_objects.specs.declared.letters.LetterBody.TheVariants as bodies
use Rattle.cp_objects.specs.declared.letters.SharedOutcome.{SharedOutcome}
use Rattle.cp_objects.specs.declared.letters.SharedOutcome.TheVariants as outcomes

-- a call came to this, as who called is told
abbrev pub answer_to : Caller → SharedOutcome → Letter
answer_to caller outcome = record { to = caller.proxy.session; body = bodies.Answer caller.proxy.object caller.ticket outcome }

-- What goes back where the session is gone that a letter is for: a call fails, and all else needs no answer.
abbrev pub bounced_by : LetterBody → Option Letter
bounced_by (bodies.Call call) = Some (answer_to call.caller outcomes.Disconnected)
bounced_by other = None

abbrev pub bounced : Letter → Option Letter
bounced letter = bounced_by letter.body
