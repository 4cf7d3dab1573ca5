-- Servants as served objects.
use Rattle.std.specs.Prelude.{◌≡◌, List, map}
use Rattle.cp_servants.specs.Servant as servants
use Rattle.cp_servants.specs.Servant.{Kind}
use Rattle.cp_objects.specs.declared.served.ServantObject.{ServantObject}
use Rattle.cp_objects.specs.ServedObject.{ServedObjectKind}

-- The kind of an object that is a servant: it makes, wakes and keeps nothing.
abbrev pub served : {A M : Type 0} → Kind A → ServedObjectKind (ServantObject A) M
served kind = record {
  takes = λ old ticket request before reply after new. kind.takes old.servant ticket request reply new.servant × (after ≡ before);
  polls = λ old before settled after new. kind.polls old.servant settled new.servant × (after ≡ before);
  next_calls = λ old before next_call after new. servants.NextCalls kind old.servant next_call new.servant × (after ≡ before);
  on_response = λ old call_id outcome before after new. servants.OnResponse kind old.servant call_id outcome new.servant × (after ≡ before);
  on_cancel = λ old ticket before after new. (new ≡ old) × (after ≡ before);
  ends = λ old before after new. ⊥;
  says_more = λ more object. kind.says_more more object.servant;
}

-- each of these as a served object
abbrev pub served_each : {A : Type 0} → List A → List (ServantObject A)
served_each servants = map (λ servant. record { servant = servant }) servants
