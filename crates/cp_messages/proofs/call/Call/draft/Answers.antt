use Rattle.std.specs.Prelude.{Result, Ok, Err, IfOk}
use Rattle.cp_messages.specs.Representable.{IsCall}
use Rattle.cp_messages.proofs.call.Call.draft.Goals as goal

-- what holds anyhow holds of what is answered
anyhow : {A E P : Type 0} (r : Result A E) → P → IfOk r (λ a. P)
anyhow (Ok a) p = p
anyhow (Err e) p = tt

pub returns-clause-held : goal.returns-clause-held
returns-clause-held c =
    let held : IsCall c.args.self.now = record {
      question_id = c.u32_part.ensures.fits;
      method_id = c.u16_part.ensures.fits;
      send_results_to = c.parts-number.ensures.held;
      interface_id = c.u64_part.ensures.fits;
      target = c.in_ok-target.ensures.held;
      params = c.in_ok-params.ensures.held;
    } in
    anyhow c.triple_of.result held
