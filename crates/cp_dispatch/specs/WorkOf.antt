-- Objects and their connection, as their work.
use Rattle.cp_connection.specs.Link.{Link}
use Rattle.cp_dispatch.specs.declared.dispatcher.Dispatcher.{Dispatcher}
use Rattle.cp_dispatch.specs.Work.{Work}

abbrev pub work_of : Dispatcher → Link → Work
work_of o link = record {
  link = link;
  may_call = o.may_call;
  awaited = o.awaited;
  owed = o.owed;
  asked = o.asked;
  questions = o.questions;
  held = o.holders.counts;
  given = o.given.counts;
  given_up = o.given_up.items;
  notices = o.notices.items;
}
