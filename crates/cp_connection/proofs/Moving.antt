-- Each call of a connection moves it, and one move after another is a move.
use Rattle.std.proofs.Common.{◌≡◌, inl, inr, ℕ, List, [], ◌∷◌, ◌++◌, Option, Some, None, Result, Ok, Err, refl, sym, ap, ◌∙◌, subst, append-nil, append_assoc, length, take, take-append-drop, is_none, true≢false}
use Rattle.std.specs.Prelude.{option_to_list}
use Rattle.std.proofs.Math.Seq.{take-append_seam, take-length}
use Rattle.cp_words.specs.Limits.{Bounds}
use Rattle.cp_frame.specs.declared.mode.Mode.{Mode}
use Rattle.cp_frame.specs.Reader as frames
use Rattle.cp_frame.specs.Stream.{Open}
use Rattle.cp_messages.specs.declared.message.Message.{Message}
use Rattle.cp_stream.specs.Stream.{Messages}
use Rattle.cp_vat_machine.specs.Asked.{stage_of}
use Rattle.cp_vat_machine.specs.State.{State}
use Rattle.cp_vat_machine.specs.Supported.{is_supported_to_caller}
use Rattle.cp_vat_machine.specs.Run.{Moment, Steps}
use Rattle.cp_vat_machine.specs.declared.event.Event.{Event}
use Rattle.cp_vat_machine.specs.declared.event.Event.TheVariants as events
use Rattle.cp_vat_machine.specs.declared.event.Value.{Value}
use Rattle.cp_vat_machine.specs.declared.fault.VatFault.{VatFault}
use Rattle.cp_tail_calls.specs.Bridging.{HaveDone, message_of, messages_of, sent_in, sent_of}
use Rattle.cp_tail_calls.specs.Runs.{Turn}
use Rattle.cp_tail_calls.proofs.VatRuns.{runs_behind}
use Rattle.cp_connection.specs.declared.fault.ConnectionFault.{ConnectionFault}
use Rattle.cp_connection.specs.declared.event.ConnectionEvent.{ConnectionEvent}
use Rattle.cp_connection.specs.Effects.{happening_by, AreFramesOf, happened}
use Rattle.cp_connection.specs.Link.{Link, HasCome}
use Rattle.cp_connection.specs.Doing.{Does, Refuses, Acts, served}
use Rattle.cp_connection.specs.Receiving.{Reads, ReadsOn, Receives, Fails, IsUnreceived, EndsWell, EndsBadly, Wrote, HandsOut}
use Rattle.cp_connection.specs.Moves.{Takes, StaysEnded, IsAlone, Moves}
use Rattle.cp_connection.specs.Lives.{IsCall}
use Rattle.cp_connection.proofs.Noting.{frames_both}
use Rattle.cp_connection.specs.Turns.{NoneLost, TellTurns}
use Rattle.cp_connection.proofs.Turns.{kept_first, kept_later, tells_both, tells_event, tells_none}
use Rattle.cp_connection.proofs.Serving.{is_step, stays_alone, serves_happen}

-- ---- one history after another

steps_both : (a b : List Moment) (old mid new : State) → Steps old a mid → Steps mid b new → Steps old (a ++ b) new
steps_both [] b old mid new h k = subst (λ (s : State). Steps s b new) h k
steps_both (m ∷ a) b old mid new h k = (h.0, h.1, steps_both a b h.0 mid new h.2 k)

received_both : (a b : List Moment) → messages_of (a ++ b) ≡ messages_of a ++ messages_of b
received_both [] b = refl
received_both (m ∷ a) b =
    ap (λ (x : List Message). message_of m.event ++ x) (received_both a b) ∙ sym (append_assoc (message_of m.event) (messages_of a) (messages_of b))

sent_all : (a b : List Moment) → sent_in (a ++ b) ≡ sent_in a ++ sent_in b
sent_all [] b = refl
sent_all (m ∷ a) b = ap (λ (x : List Message). sent_of m.effects ++ x) (sent_all a b) ∙ sym (append_assoc (sent_of m.effects) (sent_in a) (sent_in b))

happened_both : (a b : List Moment) → happened (a ++ b) ≡ happened a ++ happened b
happened_both [] b = refl
happened_both (m ∷ a) b =
    ap (λ (x : List ConnectionEvent). happening_by m.effects ++ x) (happened_both a b) ∙ sym (append_assoc (happening_by m.effects) (happened a) (happened b))

messages_both : (mode : Mode) (limits : Bounds) (a b : List Message) (x y rest last : List ℕ) → Messages mode limits x a rest → Messages mode limits (rest ++ y) b last
    → Messages mode limits (x ++ y) (a ++ b) last
messages_both mode limits [] b x y rest last h k = subst (λ (z : List ℕ). Messages mode limits (z ++ y) b last) (sym h) k
messages_both mode limits (m ∷ a) b x y rest last h k =
    (h.0, h.1 ++ y, ap (λ (z : List ℕ). z ++ y) h.2 ∙ append_assoc h.0 h.1 y, h.3, messages_both mode limits a b h.1 y rest last h.4 k)

-- what was before goes on, and is followed by more
chain : {X : Type 0} (o m n front next first more : List X) → o ++ first ≡ front ++ m → m ++ more ≡ next ++ n → o ++ (first ++ more) ≡ (front ++ next) ++ n
chain o m n front next first more h k =
    sym (append_assoc o first more) ∙ ap (λ x. x ++ more) h ∙ append_assoc front m more ∙ ap (λ x. front ++ x) k ∙ sym (append_assoc front next n)

-- ---- one move after another

module _ {a b x y : List ℕ} {out others : List ConnectionEvent} (old mid new : Link) (h : Moves old a x out mid) (k : Moves mid b y others new) where
  -- the second takes up what came with the first
  takes_more : (rest : List ℕ) (first : Takes old a h.came mid rest) → HasCome mid first.left → Takes old (a ++ b) (h.came ++ k.came) new rest
  takes_more rest first came =
      let next = k.takes first.left came in
      record {
        left = next.left;
        messages =
            subst (λ (z : List ℕ). Messages old.mode old.limits z (h.came ++ k.came) next.left) (append_assoc rest a b)
            (messages_both old.mode old.limits h.came k.came (rest ++ a) b first.left next.left first.messages
            (subst (λ (l : Bounds). Messages old.mode l (first.left ++ b) k.came next.left) h.same_limits
            (subst (λ (m : Mode). Messages m mid.limits (first.left ++ b) k.came next.left) h.same_mode next.messages)));
        is_open = subst (λ (l : Bounds). Open old.mode l next.left) h.same_limits (subst (λ (m : Mode). Open m mid.limits next.left) h.same_mode next.is_open);
        came = next.came;
      }

  none_ended : {X : Type 0} {f : ConnectionFault} → None ≡ Some f → X
  none_ended e = absurd (true≢false (ap is_none e))

  -- or the connection had ended, and nothing was taken
  takes_none : (rest : List ℕ) (fault : ConnectionFault) → Takes old a h.came mid rest → StaysEnded fault b k.came k.history k.went new → Takes old (a ++ b) (h.came ++ k.came) new rest
  takes_none rest fault first ended = record {
    left = first.left;
    messages =
        subst (λ (z : List ℕ). Messages old.mode old.limits (rest ++ z) (h.came ++ k.came) first.left) (sym (ap (λ (z : List ℕ). a ++ z) ended.none_taken ∙ append-nil a))
        (subst (λ (z : List Message). Messages old.mode old.limits (rest ++ a) z first.left) (sym (ap (λ (z : List Message). h.came ++ z) ended.none_came ∙ append-nil h.came)) first.messages);
    is_open = first.is_open;
    came = λ still. none_ended (sym still ∙ ended.still);
  }

  takes_by : (f : Option ConnectionFault) → mid.fault ≡ f → (rest : List ℕ) → Takes old a h.came mid rest → Takes old (a ++ b) (h.came ++ k.came) new rest
  takes_by None is rest first = takes_more rest first (first.came is)
  takes_by (Some fault) is rest first = takes_none rest fault first (k.stays fault is)

  stays_both : (fault : ConnectionFault) → StaysEnded fault a h.came h.history h.went mid → StaysEnded fault (a ++ b) (h.came ++ k.came) (h.history ++ k.history) (h.went ++ k.went) new
  stays_both fault first =
      let next = k.stays fault first.still in
      record {
        none_taken = ap (λ (z : List ℕ). z ++ b) first.none_taken ∙ next.none_taken;
        none_came = ap (λ (z : List Message). z ++ k.came) first.none_came ∙ next.none_came;
        none_done = ap (λ (z : List Moment). z ++ k.history) first.none_done ∙ next.none_done;
        none_went = ap (λ (z : List Message). z ++ k.went) first.none_went ∙ next.none_went;
        still = next.still;
      }

  -- no tail calls are served
  alone_both : IsAlone h.came h.history h.went mid → (f : Option ConnectionFault) → mid.fault ≡ f → IsAlone (h.came ++ k.came) (h.history ++ k.history) (h.went ++ k.went) new
  alone_both first None is =
      let next = k.alone (first.still is) in
      record {
        received = ap (λ (z : List Message). z ++ k.came) first.received ∙ ap (λ (z : List Message). messages_of h.history ++ z) next.received ∙ sym (received_both h.history k.history);
        sent = ap (λ (z : List Message). z ++ k.went) first.sent ∙ ap (λ (z : List Message). sent_in h.history ++ z) next.sent ∙ sym (sent_all h.history k.history);
        still = next.still;
      }
  alone_both first (Some fault) is =
      let ended = k.stays fault is in
      let history : h.history ++ k.history ≡ h.history = ap (λ (z : List Moment). h.history ++ z) ended.none_done ∙ append-nil h.history in
      record {
        received = ap (λ (z : List Message). h.came ++ z) ended.none_came ∙ append-nil h.came ∙ first.received ∙ sym (ap messages_of history);
        sent = ap (λ (z : List Message). h.went ++ z) ended.none_went ∙ append-nil h.went ∙ first.sent ∙ sym (ap sent_in history);
        still = λ open_. none_ended (sym open_ ∙ ended.still);
      }

  -- tail calls go on by turns
  turns_more : (past : List Turn) → HaveDone (served old) past → NoneLost (h.history ++ k.history) → TellTurns past (h.came ++ k.came) (h.history ++ k.history) (h.went ++ k.went) (served new)
  turns_more past done kept =
      let first = h.turns past done (kept_first h.history k.history kept) in
      let next = k.turns first.0 first.1 (kept_later h.history k.history kept) in
      (next.0, next.1, tells_both received_both sent_all past first.0 next.0 h.came k.came h.history k.history h.went k.went first.2 next.2)

  pub moves_both : Moves old (a ++ b) (x ++ y) (out ++ others) new
  moves_both = record {
    history = h.history ++ k.history;
    steps = steps_both h.history k.history old.vat mid.vat new.vat h.steps k.steps;
    came = h.came ++ k.came;
    takes = λ rest came. takes_by mid.fault refl rest (h.takes rest came);
    went = h.went ++ k.went;
    bytes = h.bytes ++ k.bytes;
    are_frames = frames_both old.mode h.went k.went h.bytes k.bytes h.are_frames (subst (λ (m : Mode). AreFramesOf m k.went k.bytes) h.same_mode k.are_frames);
    goes_out = chain old.unwritten mid.unwritten new.unwritten x y h.bytes k.bytes h.goes_out k.goes_out;
    happens =
        ap (λ (z : List ConnectionEvent). old.happened ++ z) (happened_both h.history k.history)
        ∙ chain old.happened mid.happened new.happened out others (happened h.history) (happened k.history) h.happens k.happens;
    alone = λ none. alone_both (h.alone none) mid.fault refl;
    turns = turns_more;
    stays = λ fault is. stays_both fault (h.stays fault is);
    same_mode = k.same_mode ∙ h.same_mode;
    same_limits = k.same_limits ∙ h.same_limits;
  }

-- ---- nothing is taken

-- no event is done, and what came of the open frame stays, unless the connection ends
module _ (old new : Link) (vat : new.vat ≡ old.vat) (mode : new.mode ≡ old.mode) (limits : new.limits ≡ old.limits)
    (tails : new.tails ≡ old.tails) (came : (rest : List ℕ) → HasCome old rest → new.fault ≡ None → HasCome new rest) (stays : (fault : ConnectionFault) → old.fault ≡ Some fault → new.fault ≡ Some fault) where
  pub moves_quietly : {written : List ℕ} {handed : List ConnectionEvent} → old.unwritten ≡ written ++ new.unwritten → old.happened ≡ handed ++ new.happened → Moves old [] written handed new
  moves_quietly goes_out happens = record {
    history = [];
    steps = vat;
    came = [];
    takes = λ rest here. record { left = rest; messages = append-nil rest; is_open = is_open_of old.reading rest here.0 here.1; came = came rest here };
    went = [];
    bytes = [];
    are_frames = refl;
    goes_out = append-nil old.unwritten ∙ goes_out;
    happens = append-nil old.happened ∙ happens;
    alone = λ none. record { received = refl; sent = refl; still = λ _. tails ∙ none };
    turns = λ past done kept. tells_none (served old) (served new) past tails done;
    stays = λ fault is. record { none_taken = refl; none_came = refl; none_done = refl; none_went = refl; still = stays fault is };
    same_mode = mode;
    same_limits = limits;
  }
    where
      is_open_of : (s : frames.State) (rest : List ℕ) → frames.IsReading s → frames.Stands old.mode old.limits s rest → Open old.mode old.limits rest
      is_open_of frames.failed rest r h = absurd r
      is_open_of (frames.refusing fault) rest r h = absurd r
      is_open_of (frames.reading kept taken) rest r h = h.2

-- what came of an open frame is open
opens : (mode : Mode) (limits : Bounds) (s : frames.State) (rest : List ℕ) → frames.IsReading s → frames.Stands mode limits s rest → Open mode limits rest
opens mode limits frames.failed rest r h = absurd r
opens mode limits (frames.refusing fault) rest r h = absurd r
opens mode limits (frames.reading kept taken) rest r h = h.2

none_some : {X Y : Type 0} {x : X} → (f : Option X) → f ≡ None → f ≡ Some x → Y
none_some f none some = absurd (true≢false (ap is_none (sym none ∙ some)))

came_same : (old new : Link) (rest : List ℕ) → new.mode ≡ old.mode → new.limits ≡ old.limits → new.reading ≡ old.reading → HasCome old rest → HasCome new rest
came_same old new rest m l r h = rw (m, l, r) h

-- ---- an event

module _ (old mid new : Link) (event : Event) (result : Result Value VatFault) (d : Does mid event result new) (vat : mid.vat ≡ old.vat) (tails : mid.tails ≡ old.tails) (mode : mid.mode ≡ old.mode)
    (limits : mid.limits ≡ old.limits) (unwritten : mid.unwritten ≡ old.unwritten) (happened_ : mid.happened ≡ old.happened) (fault : mid.fault ≡ old.fault) where
  alone_one : old.tails ≡ None → IsAlone (message_of event) d.history (sent_of d.effects) new
  alone_one none =
      let alone = is_step d (tails ∙ none) in
      record {
        received = sym (append-nil (message_of event)) ∙ sym (ap messages_of alone.one);
        sent = sym (append-nil (sent_of d.effects)) ∙ sym (ap sent_in alone.one);
        still = stays_alone d (tails ∙ none);
      }

  pub moves_event : {taken : List ℕ} → ((rest : List ℕ) → HasCome old rest → Takes old taken (message_of event) new rest) → Moves old taken [] [] new
  moves_event takes = record {
    history = d.history;
    steps = subst (λ (s : State). Steps s d.history new.vat) vat (runs_behind is_supported_to_caller stage_of (served mid) (served new) event result d.history d.effects d.serves);
    came = message_of event;
    takes = takes;
    went = sent_of d.effects;
    bytes = d.bytes;
    are_frames = rw (← mode) d.are_frames;
    goes_out = ap (λ (x : List ℕ). x ++ d.bytes) (sym unwritten) ∙ sym d.goes_out;
    happens =
        ap (λ (x : List ConnectionEvent). x ++ happened d.history) (sym happened_) ∙ ap (λ (x : List ConnectionEvent). mid.happened ++ x) (serves_happen d.serves) ∙ sym d.happens;
    alone = alone_one;
    turns = λ past done kept. tells_event result d.serves past (done.0, tails ∙ done.1, done.2) kept;
    stays = λ f is. none_some old.fault (sym fault ∙ d.was_open) is;
    same_mode = d.same_mode ∙ mode;
    same_limits = d.same_limits ∙ limits;
  }

no_message : (event : Event) → IsCall event → message_of event ≡ []
no_message (events.Receive m) h = absurd h
no_message events.Bootstrap h = refl
no_message (events.Call cap request) h = refl
no_message (events.Answer origin outcome) h = refl
no_message events.Promise h = refl
no_message (events.Resolve p cap) h = refl
no_message (events.Finish q) h = refl
no_message (events.Release i) h = refl
no_message (events.Forget p) h = refl
no_message events.Idle h = refl

-- a call of the application
moves_done : (old new : Link) (event : Event) (result : Result Value VatFault) → IsCall event → Does old event result new → Moves old [] [] [] new
moves_done old new event result call d = moves_event old old new event result d refl refl refl refl refl refl refl (λ rest came. record {
  left = rest;
  messages = rw (no_message event call) (append-nil rest);
  is_open = opens old.mode old.limits old.reading rest came.0 came.1;
  came = λ still. came_same old new rest d.same_mode d.same_limits d.same_reading came;
})

-- a message that was read
moves_read : (old mid new : Link) (front : List ℕ) (m : Message) (result : Result Value VatFault) → Reads old front m mid → Does mid (events.Receive m) result new → Moves old front [] [] new
moves_read old mid new front m result reads d =
    moves_event old mid new (events.Receive m) result d (ap (λ (l : Link). l.vat) reads.same) (ap (λ (l : Link). l.tails) reads.same) (ap (λ (l : Link). l.mode) reads.same)
    (ap (λ (l : Link). l.limits) reads.same) (ap (λ (l : Link). l.unwritten) reads.same) (ap (λ (l : Link). l.happened) reads.same) (ap (λ (l : Link). l.fault) reads.same) (λ rest came. record {
      left = [];
      messages = (rest ++ front, [], sym (append-nil (rest ++ front)), reads.is_frame rest came, refl);
      is_open =
          rw (← ap (λ (l : Link). l.mode) reads.same, ← ap (λ (l : Link). l.limits) reads.same)
          (opens mid.mode mid.limits mid.reading [] reads.fresh.0 reads.fresh.1);
      came = λ still. came_same mid new [] d.same_mode d.same_limits d.same_reading reads.fresh;
    })

-- a piece in which no frame ends
moves_on : (old new : Link) (piece : List ℕ) → ReadsOn old piece new → Moves old piece [] [] new
moves_on old new piece reads =
    let mode : new.mode ≡ old.mode = ap (λ (l : Link). l.mode) reads.same in
    let limits : new.limits ≡ old.limits = ap (λ (l : Link). l.limits) reads.same in
    record {
      history = [];
      steps = ap (λ (l : Link). l.vat) reads.same;
      came = [];
      takes = λ rest came. record {
        left = rest ++ piece;
        messages = refl;
        is_open = rw (← mode, ← limits) (opens new.mode new.limits new.reading (rest ++ piece) (reads.came rest came).0 (reads.came rest came).1);
        came = λ still. reads.came rest came;
      };
      went = [];
      bytes = [];
      are_frames = refl;
      goes_out = append-nil old.unwritten ∙ sym (ap (λ (l : Link). l.unwritten) reads.same);
      happens = append-nil old.happened ∙ sym (ap (λ (l : Link). l.happened) reads.same);
      alone = λ none. record { received = refl; sent = refl; still = λ _. ap (λ (l : Link). l.tails) reads.same ∙ none };
      turns = λ past done kept. tells_none (served old) (served new) past (ap (λ (l : Link). l.tails) reads.same) done;
      stays = λ f is. none_some old.fault reads.was_open is;
      same_mode = mode;
      same_limits = limits;
    }

-- ---- no event

pub moves_same : (old new : Link) → new ≡ old → Moves old [] [] [] new
moves_same old new e =
    moves_quietly old new (ap (λ (l : Link). l.vat) e) (ap (λ (l : Link). l.mode) e) (ap (λ (l : Link). l.limits) e) (ap (λ (l : Link). l.tails) e) (λ rest came still. rw e came)
    (λ fault is. ap (λ (l : Link). l.fault) e ∙ is) (sym (ap (λ (l : Link). l.unwritten) e)) (sym (ap (λ (l : Link). l.happened) e))

moves_failed : (old new : Link) (fault : ConnectionFault) → Fails old fault new → Moves old [] [] [] new
moves_failed old new fault fails =
    let e = fails.same in
    moves_quietly old new (ap (λ (l : Link). l.vat) e) (ap (λ (l : Link). l.mode) e) (ap (λ (l : Link). l.limits) e) (ap (λ (l : Link). l.tails) e)
    (λ rest came still. none_some new.fault still (ap (λ (l : Link). l.fault) e))
    (λ f is. none_some old.fault fails.was_open is) (sym (ap (λ (l : Link). l.unwritten) e)) (sym (ap (λ (l : Link). l.happened) e))

moves_refused : (old new : Link) (event : Event) (fault : ConnectionFault) → IsCall event → Refuses old event fault new → Moves old [] [] [] new
moves_refused old new event fault call h = moves_done old new event (Err h.0) call h.2

-- ---- each call of a connection

pub moves_received : (old new : Link) (piece : List ℕ) (count : ℕ) → Receives old piece count new → Moves old (take count piece) [] [] new
moves_received old new piece count (inl h) =
    subst (λ (x : List ℕ). Moves old x [] [] new) (sym (ap (λ (n : ℕ). take n piece) h.0 ∙ take-length piece)) (moves_on old new piece h.1)
moves_received old new piece count (inr h) =
    subst (λ (x : List ℕ). Moves old x [] [] new) (sym (ap (λ (n : ℕ). take n piece) h.5 ∙ ap (λ (x : List ℕ). take (length h.0) x) h.4 ∙ take-append_seam h.0 h.1))
    (moves_read old h.3 new h.0 h.2 _ h.6 h.7)

pub moves_unreceived : (old new : Link) (piece taken : List ℕ) (fault : ConnectionFault) → IsUnreceived old piece taken fault new → Moves old taken [] [] new
moves_unreceived old new piece taken fault (inl h) = subst (λ (x : List ℕ). Moves old x [] [] new) (sym h.0) (moves_same old new h.1.1)
moves_unreceived old new piece taken fault (inr (inl h)) = subst (λ (x : List ℕ). Moves old x [] [] new) (sym h.0) (moves_failed old new fault h.2)
moves_unreceived old new piece taken fault (inr (inr h)) = moves_read old h.2 new taken h.1 _ h.4 h.5.2

pub moves_ended : (old new : Link) → EndsWell old new → Moves old [] [] [] new
moves_ended old new h = moves_same old new h.same

pub moves_cut : (old new : Link) (fault : ConnectionFault) → EndsBadly old fault new → Moves old [] [] [] new
moves_cut old new fault (inl h) = moves_same old new h.1
moves_cut old new fault (inr h) = moves_failed old new fault h.1

pub moves_acted : (old new : Link) (event : Event) (result : Result Value ConnectionFault) → IsCall event → Acts old event result new → Moves old [] [] [] new
moves_acted old new event (Ok value) call h = moves_done old new event (Ok value) call h
moves_acted old new event (Err fault) call (inl h) = moves_same old new h.1
moves_acted old new event (Err fault) call (inr h) = moves_refused old new event fault call h

pub moves_wrote : (old new : Link) (count : ℕ) → Wrote old count new → Moves old [] (take count old.unwritten) [] new
moves_wrote old new count e =
    moves_quietly old new (ap (λ (l : Link). l.vat) e) (ap (λ (l : Link). l.mode) e) (ap (λ (l : Link). l.limits) e) (ap (λ (l : Link). l.tails) e)
    (λ rest came still. came_same old new rest (ap (λ (l : Link). l.mode) e) (ap (λ (l : Link). l.limits) e) (ap (λ (l : Link). l.reading) e) came)
    (λ fault is. ap (λ (l : Link). l.fault) e ∙ is)
    (sym (take-append-drop count old.unwritten) ∙ ap (λ (x : List ℕ). take count old.unwritten ++ x) (sym (ap (λ (l : Link). l.unwritten) e)))
    (sym (ap (λ (l : Link). l.happened) e))

pub moves_handed : (old new : Link) (first : Option ConnectionEvent) → HandsOut old first new → Moves old [] [] (option_to_list first) new
moves_handed old new None h = moves_same old new h.1
moves_handed old new (Some first) h =
    let e = h.1 in
    moves_quietly old new (ap (λ (l : Link). l.vat) e) (ap (λ (l : Link). l.mode) e) (ap (λ (l : Link). l.limits) e) (ap (λ (l : Link). l.tails) e)
    (λ rest came still. came_same old new rest (ap (λ (l : Link). l.mode) e) (ap (λ (l : Link). l.limits) e) (ap (λ (l : Link). l.reading) e) came)
    (λ fault is. ap (λ (l : Link). l.fault) e ∙ is) (sym (ap (λ (l : Link). l.unwritten) e)) h.0
