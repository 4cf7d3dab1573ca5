-- Whatever is done with a connection is a run of the messages of its bytes.
use Rattle.std.proofs.Common.{ℕ, List, [], Option, refl, sym, subst}
use Rattle.cp_words.specs.Limits.{Bounds}
use Rattle.cp_frame.specs.declared.mode.Mode.{Mode}
use Rattle.cp_frame.specs.Stream.{Open}
use Rattle.cp_messages.specs.declared.message.Message.{Message}
use Rattle.cp_stream.specs.Stream.{Messages, Stream}
use Rattle.cp_stream.proofs.Runs.{is_one_stream}
use Rattle.cp_vat_laws.proofs.writable.Stepping.{runs_write}
use Rattle.cp_tail_calls.specs.Bridging.{messages_of}
use Rattle.cp_tail_calls.specs.Tails.{none}
use Rattle.cp_connection.specs.declared.event.ConnectionEvent.{ConnectionEvent}
use Rattle.cp_connection.specs.Effects.{AreFramesOf}
use Rattle.cp_connection.specs.Link.{Link, new_link, new_link_with_tails}
use Rattle.cp_connection.specs.Moves.{Moves}
use Rattle.cp_connection.specs.Lives.{Calls, receives, receives_none, ends, ends_inside, acts, writes, hands, Life, begins, goes_on, IsRunOf, LivesRun, AnyCut, IsRunBehind, LivesBehind}
use Rattle.cp_connection.proofs.Keeping.{nothing_stands}
use Rattle.cp_connection.proofs.Moving.{moves_both, moves_same, moves_received, moves_unreceived, moves_ended, moves_cut, moves_acted, moves_wrote, moves_handed}

pub calls_move : {old new : Link} {taken written : List ℕ} {out : List ConnectionEvent} → Calls old taken written out new → Moves old taken written out new
calls_move {old = old} {new = new} (receives piece count h e) = subst (λ (x : List ℕ). Moves old x [] [] new) (sym e) (moves_received old new piece count h)
calls_move {old = old} {new = new} {taken = taken} (receives_none piece fault h) = moves_unreceived old new piece taken fault h
calls_move {old = old} {new = new} (ends h) = moves_ended old new h
calls_move {old = old} {new = new} (ends_inside fault h) = moves_cut old new fault h
calls_move {old = old} {new = new} (acts event result call h) = moves_acted old new event result call h
calls_move {old = old} {new = new} (writes count h e) = subst (λ (x : List ℕ). Moves old [] x [] new) (sym e) (moves_wrote old new count h)
calls_move {old = old} {new = new} (hands first h e) = subst (λ (x : List ConnectionEvent). Moves old [] [] x new) (sym e) (moves_handed old new first h)

pub lives_move : {first last : Link} {taken written : List ℕ} {out : List ConnectionEvent} → Life first taken written out last → Moves first taken written out last
lives_move {first = first} begins = moves_same first first refl
lives_move {first = first} {last = last} (goes_on {mid = mid} before call e f g) =
    rw (e, f, g) (moves_both first mid last (lives_move before) (calls_move call))

module _ (mode : Mode) (limits : Bounds) where
  pub run_of : (bootstrap : Option ℕ) (taken written : List ℕ) (handed : List ConnectionEvent) (last : Link) → Moves (new_link mode limits bootstrap) taken written handed last
      → IsRunOf mode limits bootstrap taken written handed last
  run_of bootstrap taken written handed last h =
      let all = h.takes [] (nothing_stands mode limits) in
      let alone = h.alone refl in
      record {
        history = h.history;
        steps = h.steps;
        rest = all.left;
        messages = subst (λ (ms : List Message). Messages mode limits taken ms all.left) alone.received all.messages;
        is_open = all.is_open;
        bytes = h.bytes;
        are_frames = subst (λ (ms : List Message). AreFramesOf mode ms h.bytes) alone.sent h.are_frames;
        goes_out = h.goes_out;
        writable = runs_write bootstrap h.history last.vat h.steps;
        happens = h.happens;
      }

  pub run_behind : (bootstrap : Option ℕ) (taken written : List ℕ) (handed : List ConnectionEvent) (last : Link) → Moves (new_link_with_tails mode limits bootstrap) taken written handed last
      → IsRunBehind mode limits bootstrap taken written handed last
  run_behind bootstrap taken written handed last h =
      let all = h.takes [] (nothing_stands mode limits) in
      record {
        history = h.history;
        steps = h.steps;
        came = h.came;
        rest = all.left;
        messages = all.messages;
        is_open = all.is_open;
        went = h.went;
        bytes = h.bytes;
        are_frames = h.are_frames;
        goes_out = h.goes_out;
        happens = h.happens;
        turns = h.turns [] (none, refl, refl);
      }

  stream_of : (taken : List ℕ) (ms : List Message) (rest : List ℕ) → Messages mode limits taken ms rest → Open mode limits rest → Stream mode limits taken ms rest
  stream_of taken ms rest messages open_ = record { messages = messages; no_more = λ n m f. open_.no_front f.4.0 f.0 f.1 f.2 f.4.1 }

pub any_cut : AnyCut
any_cut mode limits bootstrap other taken written gone handed out last end one two =
    is_one_stream mode limits taken (messages_of one.history) (messages_of two.history) one.rest two.rest
    (stream_of mode limits taken (messages_of one.history) one.rest one.messages one.is_open)
    (stream_of mode limits taken (messages_of two.history) two.rest two.messages two.is_open)

pub lives_run : LivesRun
lives_run mode limits bootstrap taken written handed last life = run_of mode limits bootstrap taken written handed last (lives_move life)

pub lives_behind : LivesBehind
lives_behind mode limits bootstrap taken written handed last life = run_behind mode limits bootstrap taken written handed last (lives_move life)
