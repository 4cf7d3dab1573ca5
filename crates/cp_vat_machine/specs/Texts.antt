-- The texts of exceptions that a vat makes. (rpc.capnp: "Abort", "Exception".)
use Rattle.std.specs.Prelude.{ℕ, List, codes}
use Rattle.cp_messages.specs.declared.exception.Exception.{Exception}
use Rattle.cp_refs.specs.At.{failed}
use Rattle.cp_vat_machine.specs.declared.fault.PeerFault.{PeerFault}
use Rattle.cp_vat_machine.specs.declared.fault.PeerFault.TheVariants as faults

-- the reason that a peer is given for its fault
abbrev pub text_of : PeerFault → List ℕ
text_of faults.QuestionInUse = codes "P1 question in use"
text_of faults.UnknownQuestion = codes "P2 unknown question"
text_of faults.UnknownAnswer = codes "P3 unknown answer"
text_of faults.UnknownExport = codes "P4 unknown export"
text_of faults.ReleaseTooLarge = codes "P5 release too large"
text_of faults.NotAnOpenPromise = codes "P6 not an open promise"
text_of faults.DisembargoTarget = codes "P7 disembargo target"
text_of faults.UnknownEmbargo = codes "P8 unknown embargo"
text_of faults.PayloadTooLarge = codes "P9 payload too large"
text_of faults.TableFull = codes "P10 table full"
text_of faults.EchoTooLarge = codes "P11 echo too large"
text_of faults.PeerLacksLevelOne = codes "P12 peer lacks level 1"

-- what a tied promise is broken by whose value would lead back to it
abbrev pub promise_loop : Exception
promise_loop = failed (codes "promise loop")

-- what a Bootstrap fails with where there is no bootstrap object
abbrev pub no_bootstrap : Exception
no_bootstrap = failed (codes "no bootstrap")
