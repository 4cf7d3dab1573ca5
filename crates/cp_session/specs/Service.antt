-- A connection with what is done for its objects.
use Rattle.std.specs.Prelude.{Bool, false, if◌then◌else◌, Option, Some, None}
use Rattle.cp_connection.specs.Link.{Link, new_link_with_tails}
use Rattle.cp_dispatch.specs.Work.{Work, begun}
use Rattle.cp_dispatch.specs.WorkOf.{work_of}
use Rattle.cp_session.specs.declared.options.SessionOptions.{SessionOptions}
use Rattle.cp_session.specs.declared.endpoint.Endpoint.{Endpoint}
use Rattle.cp_session.specs.declared.empty_polls.EmptyPolls.{EmptyPolls}
use Rattle.cp_session.specs.declared.search.Search.{Search}
use Rattle.cp_session.specs.declared.sweep.Sweep.{Sweep}
use Rattle.cp_session.specs.EmptyPolls.{no_polls, renewed}

-- The connection with what is owed to its objects, when imports are sought that nobody holds, if they are, and whether an object gave what was awaited when
-- all were polled last; when objects are sought that nothing refers to; and how often polls gave nothing.
pub record Service : Type 0 where
  pub work : Work
  pub search : Option Search
  pub gave : Bool
  pub sweep : Sweep
  pub empty_polls : EmptyPolls

-- an endpoint by its parts
abbrev pub service_of : Endpoint → Service
service_of endpoint = record { work = work_of endpoint.work endpoint.connection; search = endpoint.search; gave = endpoint.gave; sweep = endpoint.sweep; empty_polls = endpoint.empty_polls }

-- nothing was sought, if something is
abbrev pub first_search : Bool → Option Search
first_search releases_idle = if releases_idle then Some (record { from = 0 }) else None

-- no objects were sought
abbrev pub unswept : Sweep
unswept = record { from = 0; at = None }

-- nothing came to it
abbrev pub new_service : SessionOptions → Service
new_service options = record {
  work = begun options.may_call (new_link_with_tails options.mode options.messages options.bootstrap);
  search = first_search options.releases_idle;
  gave = false;
  sweep = unswept;
  empty_polls = no_polls;
}

-- the same, with another connection
abbrev pub with_link : Service → Link → Service
with_link service link = record service { work = record service.work { link = link } }

-- the same, to which something came: empty polls are counted anew
abbrev pub stirred : Service → Service
stirred service = record service { empty_polls = renewed service.empty_polls }
