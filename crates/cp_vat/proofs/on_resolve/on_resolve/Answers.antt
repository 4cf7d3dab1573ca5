use Rattle.std.proofs.Common.{[], sym, ◌∙◌, append-nil}
use Rattle.cp_rpc.specs.Viewed.{viewed_resolve}
use Rattle.cp_vat_state.specs.StateOf.{state_of}
use Rattle.cp_vat.proofs.Resolving.{resolves_open}
use Rattle.cp_vat.proofs.on_resolve.on_resolve.Goals as goal

pub returns : goal.returns
returns g c = (
  [],
  sym (append-nil c.args.effects.now.items),
  rw c.in_ok-put_import.ensures.put (resolves_open (state_of c.args.core.now) (state_of c.receive_resolution.new.core) (viewed_resolve g.S.Source.seen c.args.message.now) c.in-Some.import.now c.in_ok-value.value c.in-Some.ensures.value (sym c.if-not-is_open_promise.false ∙ c.is_open_promise.ensures) c.in_ok-value.ensures),
)
