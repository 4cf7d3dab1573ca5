-- How a call of a window is made, or isn't.
use Rattle.std.proofs.Common.{◌≡◌, ℕ, Bool, true, false, List, Result, Ok, Err, refl, ap}
use Rattle.cp_objects.specs.ObjectTable.{ObjectTableKind}
use Rattle.cp_objects.specs.SessionCap.{is_of}
use Rattle.cp_objects.specs.declared.session_cap.SessionCap.{SessionCap}
use Rattle.cp_refs.specs.declared.call.Request.{Request}
use Rattle.cp_refs.specs.declared.cap.Cap.{Cap}
use Rattle.cp_interfaces.specs.Calls.{CallsIf}
use Rattle.cp_interfaces.specs.Promises.{Promise}
use Rattle.cp_interfaces.specs.declared.naming_error.NamingError.{NamingError}
use Rattle.cp_client.specs.Calls.{AsksOrNot}
use Rattle.cp_client.specs.CallWindows.{Flow, IsUnsent, MakesRoom, due, foreign, uncalled}
use Rattle.cp_client.specs.Conversation.{Conversation}
use Rattle.cp_client.specs.Faults.{of_naming}
use Rattle.cp_client.specs.declared.fault.CallError.TheVariants as faults
use Rattle.cp_client.specs.declared.fault.ClientFault.{ClientFault}

module _ {C F : Type 0} (session : ℕ) (sends : C → Cap → Request → Result ℕ F → C → Type 0) (says : NamingError → F → Type 0) where
  -- a capability that was called is of the caller's session
  pub is_called : (own : Bool) (old : C) (cap : Cap) (request : Request) (p : Promise) (new : C) → CallsIf own (λ (q : Promise). q) session sends says old cap request (Ok p) new
      → (own ≡ true) × sends old cap request (Ok p.question) new
  is_called true old cap request p new is = (refl, is.0)
  is_called false old cap request p new is = absurd is.0

-- why a call isn't made for which there is room
pub unsent_for : {C H : Type 0} (table : ObjectTableKind H) (seen : C → Conversation H) (flow : Flow) (old : Conversation H) (left : List ℕ) (target : SessionCap) (request : Request)
    (fault : ClientFault) (mid new : C) → MakesRoom table flow.under_way old (due flow) left (seen mid) → (own : Bool) → is_of (seen mid).number target ≡ own
    → CallsIf own (λ (q : Promise). q) (seen mid).number (λ a cap r result b. AsksOrNot (seen a) cap r result (seen b)) (λ why f. f ≡ of_naming why) mid target.cap request (Err fault) new
    → IsUnsent table flow old target request (faults.Client fault) left (seen new)
unsent_for table seen flow old left target request fault mid new room true own asks = uncalled fault (seen mid) refl room own asks
unsent_for table seen flow old left target request fault mid new room false own is = foreign (ap faults.Client is.0) (rw is.1 room) (rw is.1 own)
