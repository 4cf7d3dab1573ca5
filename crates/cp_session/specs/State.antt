-- A session, as its program and its driver see it.
use Rattle.std.specs.Prelude.{ℕ}
use Rattle.cp_connection.specs.Link.{Link}
use Rattle.cp_dispatch.specs.Work.{Work}
use Rattle.cp_session.specs.declared.limits.SessionLimits.{SessionLimits}
use Rattle.cp_session.specs.declared.options.SessionOptions.{SessionOptions}
use Rattle.cp_session.specs.declared.progress.Progress.{Progress}
use Rattle.cp_session.specs.declared.session.SessionOver.{SessionOver}
use Rattle.cp_session.specs.Progress.{begun}
use Rattle.cp_session.specs.Service.{Service, service_of, new_service, with_link}

-- Its connection with what is done for its objects, the objects, its limits, and how far it is.
pub record State (H : Type 0) : Type 0 where
  pub service : Service
  pub objects : H
  pub limits : SessionLimits
  pub progress : Progress

-- a session by its parts
abbrev pub state_of : {H : Type 0} → SessionOver H → State H
state_of session = record {
  service = service_of session.endpoint;
  objects = session.objects;
  limits = session.limits;
  progress = session.progress;
}

-- a session to which nothing came, with these objects, at this time
abbrev pub new_state : {H : Type 0} → SessionOptions → H → ℕ → State H
new_state options objects now = record { service = new_service options; objects = objects; limits = options.limits; progress = begun now }

module _ {H : Type 0} where
  -- its connection
  abbrev pub link_of : State H → Link
  link_of state = state.service.work.link

  -- the same, with another connection
  abbrev pub linked : State H → Link → State H
  linked state link = record state { service = with_link state.service link }

  -- the same, with other work for its objects
  abbrev pub worked : State H → Work → State H
  worked state work = record state { service = record state.service { work = work } }

  -- the same, that is so far
  abbrev pub with_progress : State H → Progress → State H
  with_progress state further = record state { progress = further }
