-- An application end's tables stay those of its plain pair, input by input.
use Rattle.std.proofs.Common.{◌≡◌, ℤ, ℕ, Bool, true, false, not, List, [], Option, Some, None, option_map, refl, sym, ◌∙◌, ap, subst, inl, inr}
use Rattle.std.specs.Prelude.{is_some, IfSome, nat_le}
use Rattle.std.proofs.lemmas.Bool.{false≢true}
use Rattle.plain_orders.specs.declared.layout.Times.{Times}
use Rattle.plain_orders.specs.declared.refused.LinkName.{LinkName}
use Rattle.plain_orders.specs.declared.refused.LinkName.TheVariants as names
use Rattle.plain_orders.specs.Times.{until}
use Rattle.app_job.specs.declared.reason.Reason.TheVariants as reasons
use Rattle.ecp_messages.specs.declared.about.About.{About}
use Rattle.ecp_messages.specs.declared.about.About.TheVariants.{Counted, NotWhole, Range, Committed, RolledBack, Synced}
use Rattle.plain_runs.specs.Plain.{Pair}
use Rattle.link_states.specs.declared.app_link.AppLink.{AppLink}
use Rattle.link_states.specs.declared.app_link.AppLink.TheVariants.{NotConnected, Normal as NormalLink, Trouble, Recovery}
use Rattle.link_states.specs.declared.link_event.LinkEvent.TheVariants.{Ended as EndedEvent, Welcomed as WelcomedEvent, Settled as SettledEvent, Connected as ConnectedEvent, ConnectFailed}
use Rattle.link_states.specs.Tables.{app_next}
use Rattle.ecp_messages.specs.declared.down.Down.{Down}
use Rattle.ecp_messages.specs.declared.down.Down.TheVariants.{Welcome, Reset, Block, Drop, Ack, Grant, Answer, Normal, Bare}
use Rattle.ecp_messages.specs.declared.front.Front.{Front}
use Rattle.ecp_messages.specs.declared.up.Up.{Up}
use Rattle.app_job.specs.declared.reason.Reason.{Reason}
use Rattle.end_words.specs.Windows.{with_ack, with_ack_put}
use Rattle.app_rules.specs.Delivering.{with_answer}
use Rattle.app_rules.specs.declared.line.Line.{Line}
use Rattle.app_rules.specs.declared.line.Line.TheVariants.{Apart, Trying, Greeting, Asking, Joined}
use Rattle.app_rules.specs.AppState.{AppEnd, Session}
use Rattle.app_rules.specs.Works.{with_line, with_window, is_apart, synced_up}
use Rattle.app_rules.specs.Losing.{without_session, line_after_loss}
use Rattle.app_rules.specs.Welcoming.{new_session, in_epoch}
use Rattle.app_rules.specs.Downs.{took}
use Rattle.cluster_invariant.specs.Ends.{AppTables, stands, due_stands, has_session, broke_in, number_of}
use Rattle.cluster_steps.proofs.JobEnds.{EndGrows, SessionsGrow, LineGrows}
use Rattle.cluster_steps.proofs.EndSteps.{session_put}
use Rattle.cluster_steps.proofs.FrameEnds.{ended_from, Delivered, settled_link}
use Rattle.cluster_steps.proofs.FrameCases.{LineHas}
use Rattle.cluster_steps.proofs.InputEnds.{greeting_end, asking_end, failed_end, tried_if, rejoined, troubled, ticked_from}

-- what follows of the tables

line_has_by : (link : AppLink) (line : Line) (o : Option Session) → stands link line ≡ true → has_session link ≡ is_some o → LineHas line o
line_has_by link Apart o s h = tt
line_has_by link Trying o s h = tt
line_has_by link Greeting o s h = tt
line_has_by NotConnected Asking o s h = absurd (false≢true s)
line_has_by NormalLink Asking o s h = absurd (false≢true s)
line_has_by (Trouble broke try_at) Asking o s h = absurd (false≢true s)
line_has_by Recovery Asking o s h = sym h
line_has_by NotConnected Joined o s h = absurd (false≢true s)
line_has_by NormalLink Joined o s h = sym h
line_has_by (Trouble broke try_at) Joined o s h = absurd (false≢true s)
line_has_by Recovery Joined o s h = sym h

-- An end that asked or joined has a session.
pub line_has : (pair : Pair) (e : AppEnd) → AppTables pair e → LineHas e.line e.session
line_has pair e t = line_has_by e.link e.line e.session t.stands t.connected

-- a session that is there, in a pair

abbrev HasOne : Pair → AppLink → Line → Session → Type 0
HasOne pair link line s = (pair.session ≡ Some s.number) × (has_session link ≡ true) × (pair.broke ≡ broke_in link) × (stands link line ≡ true) × (due_stands link line s.normal_due ≡ true)

with_one : (pair : Pair) (e : AppEnd) (s : Session) → e.session ≡ Some s → HasOne pair e.link e.line s → AppTables pair e
with_one pair e s there h = record {
  session = h.0 ∙ ap (λ (o : Option Session). option_map number_of o) (sym there);
  connected = h.1 ∙ ap is_some (sym there);
  broke = h.2;
  stands = h.3;
  normal_due = subst (λ (o : Option Session). IfSome o (λ t. due_stands e.link e.line t.normal_due ≡ true)) (sym there) h.4;
}

the_one : (pair : Pair) (e : AppEnd) (s : Session) → e.session ≡ Some s → AppTables pair e → HasOne pair e.link e.line s
the_one pair e s there t = (
  t.session ∙ ap (λ (o : Option Session). option_map number_of o) there,
  t.connected ∙ ap is_some there,
  t.broke,
  t.stands,
  subst (λ (o : Option Session). IfSome o (λ x. due_stands e.link e.line x.normal_due ≡ true)) there t.normal_due,
)

-- jobs

line_by_job : (link : AppLink) (l m : Line) → LineGrows link l m → stands link l ≡ true → stands link m ≡ true
line_by_job link l m (inl same) s = ap (stands link) same ∙ s
line_by_job NotConnected l m (inr begins) s = ap (stands NotConnected) begins.trying
line_by_job NormalLink l m (inr begins) s = absurd (false≢true begins.free)
line_by_job (Trouble broke try_at) l m (inr begins) s = absurd (false≢true begins.free)
line_by_job Recovery l m (inr begins) s = absurd (false≢true begins.free)

number_by_job : (put : List Up) (o q : Option Session) → SessionsGrow put o q → option_map number_of q ≡ option_map number_of o
number_by_job put None None g = refl
number_by_job put None (Some t) g = absurd g
number_by_job put (Some s) None g = absurd g
number_by_job put (Some s) (Some t) g = ap (λ n. Some n) g.number

some_by_job : (put : List Up) (o q : Option Session) → SessionsGrow put o q → is_some q ≡ is_some o
some_by_job put None None g = refl
some_by_job put None (Some t) g = absurd g
some_by_job put (Some s) None g = absurd g
some_by_job put (Some s) (Some t) g = refl

due_by_job : (link : AppLink) (l m : Line) (put : List Up) (o q : Option Session) → LineGrows link l m → SessionsGrow put o q → has_session link ≡ is_some o
    → IfSome o (λ s. due_stands link l s.normal_due ≡ true) → IfSome q (λ s. due_stands link m s.normal_due ≡ true)
due_by_job link l m put None None line g has due = tt
due_by_job link l m put None (Some t) line g has due = absurd g
due_by_job link l m put (Some s) None line g has due = absurd g
due_by_job link l m put (Some s) (Some t) (inl same) g has due = ap (λ (x : Bool). due_stands link m x) g.normal_due ∙ ap (λ (x : Line). due_stands link x s.normal_due) same ∙ due
due_by_job NotConnected l m put (Some s) (Some t) (inr begins) g has due = absurd (false≢true has)
due_by_job NormalLink l m put (Some s) (Some t) (inr begins) g has due = absurd (false≢true begins.free)
due_by_job (Trouble broke try_at) l m put (Some s) (Some t) (inr begins) g has due = absurd (false≢true begins.free)
due_by_job Recovery l m put (Some s) (Some t) (inr begins) g has due = absurd (false≢true begins.free)

-- A step of a job.
pub tables_by_job : (pair : Pair) (put : List Up) (e f : AppEnd) → EndGrows put e f → AppTables pair e → AppTables pair f
tables_by_job pair put e f g t = record {
  session = t.session ∙ sym (number_by_job put e.session f.session g.session);
  connected = ap has_session g.link ∙ t.connected ∙ sym (some_by_job put e.session f.session g.session);
  broke = t.broke ∙ ap broke_in (sym g.link);
  stands = ap (λ (l : AppLink). stands l f.line) g.link ∙ line_by_job e.link e.line f.line g.line t.stands;
  normal_due = subst (λ (l : AppLink). IfSome f.session (λ s. due_stands l f.line s.normal_due ≡ true)) (sym g.link)
      (due_by_job e.link e.line f.line put e.session f.session g.line g.session t.connected t.normal_due);
}

-- frames of a session

number_delivered : (m : Down) (s : Session) (link : AppLink) (times : Times) (now : ℕ) (t : Session) (l : AppLink) (put : List Up) → Delivered m s link times now t l put → t.number ≡ s.number
number_delivered (Welcome session epoch kept front taken) s link times now t l put h = absurd h
number_delivered (Reset session at) s link times now t l put h = absurd h
number_delivered (Block front block) s link times now t l put h = ap (λ (x : Session). x.number) h.2
number_delivered (Drop front lo hi) s link times now t l put h = ap (λ (x : Session). x.number) h.0
number_delivered (Ack front) s link times now t l put h = ap (λ (x : Session). x.number) h.0
number_delivered (Grant front ticket at) s link times now t l put h = ap (λ (x : Session). x.number) h.0
number_delivered (Answer front about job number at sum) s link times now t l put h = ap (λ (x : Session). x.number) h.0 ∙ answered about number at sum s
  where
    answered : (about : About) (number at : ℕ) (sum : ℤ) (s : Session) → (with_answer about number at sum s).number ≡ s.number
    answered Counted number at sum s = refl
    answered NotWhole number at sum s = refl
    answered Range number at sum s = refl
    answered Committed number at sum s = refl
    answered RolledBack number at sum s = refl
    answered Synced number at sum s = refl
number_delivered (Normal front) s link times now t l put h = ap (λ (x : Session). x.number) h.0
number_delivered Bare s link times now t l put h = absurd h

-- the link and whether Normal is awaited: as before, or settled by a Normal
data LinkCame (s t : Session) (link l : AppLink) (times : Times) (now : ℕ) : Type 0 where
  Stays : l ≡ link → t.normal_due ≡ s.normal_due → LinkCame s t link l times now
  Settles : l ≡ app_next times now link SettledEvent → t.normal_due ≡ false → LinkCame s t link l times now

link_delivered : (m : Down) (s : Session) (link : AppLink) (times : Times) (now : ℕ) (t : Session) (l : AppLink) (put : List Up) → Delivered m s link times now t l put → LinkCame s t link l times now
link_delivered (Welcome session epoch kept front taken) s link times now t l put h = absurd h
link_delivered (Reset session at) s link times now t l put h = absurd h
link_delivered (Block front block) s link times now t l put h = Stays h.3 (ap (λ (x : Session). x.normal_due) h.2)
link_delivered (Drop front lo hi) s link times now t l put h = Stays h.1 (ap (λ (x : Session). x.normal_due) h.0)
link_delivered (Ack front) s link times now t l put h = Stays h.1 (ap (λ (x : Session). x.normal_due) h.0)
link_delivered (Grant front ticket at) s link times now t l put h = Stays h.1 (ap (λ (x : Session). x.normal_due) h.0)
link_delivered (Answer front about job number at sum) s link times now t l put h = Stays h.1 (ap (λ (x : Session). x.normal_due) h.0 ∙ answered about number at sum s)
  where
    answered : (about : About) (number at : ℕ) (sum : ℤ) (s : Session) → (with_answer about number at sum s).normal_due ≡ s.normal_due
    answered Counted number at sum s = refl
    answered NotWhole number at sum s = refl
    answered Range number at sum s = refl
    answered Committed number at sum s = refl
    answered RolledBack number at sum s = refl
    answered Synced number at sum s = refl
link_delivered (Normal front) s link times now t l put h = Settles h.1 (ap (λ (x : Session). x.normal_due) h.0)
link_delivered Bare s link times now t l put h = absurd h

settled_one : (pair : Pair) (link : AppLink) (times : Times) (now : ℕ) (s : Session) (t : Session) → t.number ≡ s.number → t.normal_due ≡ false → HasOne pair link Joined s → HasOne pair (app_next times now link SettledEvent) Joined t
settled_one pair NotConnected times now s t number due h = absurd (false≢true h.3)
settled_one pair NormalLink times now s t number due h = (h.0 ∙ ap (λ n. Some n) (sym number), refl, h.2, refl, ap not due)
settled_one pair (Trouble broke try_at) times now s t number due h = absurd (false≢true h.3)
settled_one pair Recovery times now s t number due h = (h.0 ∙ ap (λ n. Some n) (sym number), refl, h.2, refl, ap not due)

came_one : (pair : Pair) (link l : AppLink) (times : Times) (now : ℕ) (s t : Session) → t.number ≡ s.number → LinkCame s t link l times now → HasOne pair link Joined s → HasOne pair l Joined t
came_one pair link l times now s t number (Stays same due) h =
    subst (λ (x : AppLink). HasOne pair x Joined t) (sym same) (h.0 ∙ ap (λ n. Some n) (sym number), h.1, h.2, h.3, ap (λ (b : Bool). due_stands link Joined b) due ∙ h.4)
came_one pair link l times now s t number (Settles same due) h = subst (λ (x : AppLink). HasOne pair x Joined t) (sym same) (settled_one pair link times now s t number due h)

-- A fresh message.
pub tables_by_fresh : (pair : Pair) (m : Down) (e : AppEnd) (s : Session) (times : Times) (now seq ack since : ℕ) (f : Front) (after : Session) (link : AppLink) (put : List Up)
    → e.session ≡ Some s → e.line ≡ Joined → Delivered m (took seq ack f s) e.link times now after link put → AppTables pair e → AppTables pair (record e { link = link; session = Some (session_put since put after) })
tables_by_fresh pair m e s times now seq ack since f after link put there line d t =
    with_one pair (record e { link = link; session = Some (session_put since put after) }) (session_put since put after) refl
    (subst (λ (x : Line). HasOne pair link x (session_put since put after)) (sym line)
    (came_one pair e.link link times now s (session_put since put after) (number_delivered m (took seq ack f s) e.link times now after link put d) (came (link_delivered m (took seq ack f s) e.link times now after link put d))
    (subst (λ (x : Line). HasOne pair e.link x s) line (the_one pair e s there t))))
  where
    came : LinkCame (took seq ack f s) after e.link link times now → LinkCame s (session_put since put after) e.link link times now
    came (Stays same due) = Stays same due
    came (Settles same due) = Settles same due

-- An acknowledgement.
pub tables_by_ack : (pair : Pair) (e : AppEnd) (s : Session) (ack since : ℕ) → e.session ≡ Some s → AppTables pair e → AppTables pair (record e { session = Some (session_put since [] (with_window (λ w. with_ack w ack) s)) })
tables_by_ack pair e s ack since there t =
    with_one pair (record e { session = Some (session_put since [] (with_window (λ w. with_ack w ack) s)) }) (session_put since [] (with_window (λ w. with_ack w ack) s)) refl (the_one pair e s there t)

-- the end of a connection

-- the pair is broke where a session's connection ended
abbrev pub broke_by : Line → ℕ → Pair → Pair
broke_by Apart now pair = pair
broke_by Trying now pair = pair
broke_by Greeting now pair = pair
broke_by Asking now pair = record pair { broke = Some now }
broke_by Joined now pair = record pair { broke = Some now }

due_apart : (link : AppLink) (times : Times) (now : ℕ) (line : Line) (o : Option Session) → stands link line ≡ true → has_session link ≡ true → stands link Apart ≡ false → IfSome o (λ s. due_stands (app_next times now link EndedEvent) Apart s.normal_due ≡ true)
due_apart NotConnected times now line o st has ap = absurd (false≢true has)
due_apart NormalLink times now line None st has ap = tt
due_apart NormalLink times now line (Some s) st has ap = refl
due_apart (Trouble broke try_at) times now line o st has ap = absurd (false≢true (sym ap))
due_apart Recovery times now line None st has ap = tt
due_apart Recovery times now line (Some s) st has ap = refl

-- a session's end breaks
breaks_one : (link : AppLink) (times : Times) (now : ℕ) (pair : Pair) (e : AppEnd) → e.link ≡ link → has_session link ≡ true → stands link Apart ≡ false → AppTables pair e
    → AppTables (record pair { broke = Some now }) (record e { link = app_next times now link EndedEvent; line = Apart })
breaks_one NotConnected times now pair e same has st t = absurd (false≢true has)
breaks_one NormalLink times now pair e same has st t = record { session = t.session; connected = sym (ap has_session same) ∙ t.connected; broke = refl; stands = refl; normal_due = due_apart NormalLink times now Joined e.session refl refl refl }
breaks_one (Trouble broke try_at) times now pair e same has st t = absurd (false≢true (sym st))
breaks_one Recovery times now pair e same has st t = record { session = t.session; connected = sym (ap has_session same) ∙ t.connected; broke = refl; stands = refl; normal_due = due_apart Recovery times now Joined e.session refl refl refl }

asking_link : (link : AppLink) → stands link Asking ≡ true → (has_session link ≡ true) × (stands link Apart ≡ false)
asking_link NotConnected s = absurd (false≢true s)
asking_link NormalLink s = absurd (false≢true s)
asking_link (Trouble broke try_at) s = absurd (false≢true s)
asking_link Recovery s = (refl, refl)

joined_link : (link : AppLink) → stands link Joined ≡ true → (has_session link ≡ true) × (stands link Apart ≡ false)
joined_link NotConnected s = absurd (false≢true s)
joined_link NormalLink s = (refl, refl)
joined_link (Trouble broke try_at) s = absurd (false≢true s)
joined_link Recovery s = (refl, refl)

greeting_link : (link : AppLink) → stands link Greeting ≡ true → link ≡ NotConnected
greeting_link NotConnected s = refl
greeting_link NormalLink s = absurd (false≢true s)
greeting_link (Trouble broke try_at) s = absurd (false≢true s)
greeting_link Recovery s = absurd (false≢true s)

-- an end whose line alone changes, without a session
line_changes : (pair : Pair) (e : AppEnd) (l : Line) → e.link ≡ NotConnected → stands NotConnected l ≡ true → AppTables pair e → AppTables pair (with_line l e)
line_changes pair e l same st t = record {
  session = t.session;
  connected = t.connected;
  broke = t.broke;
  stands = ap (λ (x : AppLink). stands x l) same ∙ st;
  normal_due = none e.session (sym (ap has_session same) ∙ t.connected);
}
  where
    none : (o : Option Session) → false ≡ is_some o → IfSome o (λ s. due_stands e.link l s.normal_due ≡ true)
    none None h = tt
    none (Some s) h = absurd (false≢true h)

pub tables_by_end : (pair : Pair) (e : AppEnd) (line : Line) (times : Times) (now : ℕ) → e.line ≡ line → AppTables pair e → AppTables (broke_by line now pair) (ended_from line times now e)
tables_by_end pair e Apart times now line t = t
tables_by_end pair e Trying times now line t = t
tables_by_end pair e Greeting times now line t = line_changes pair e Apart (greeting_link e.link (ap (stands e.link) (sym line) ∙ t.stands)) refl t
tables_by_end pair e Asking times now line t =
    let a : (has_session e.link ≡ true) × (stands e.link Apart ≡ false) = asking_link e.link (ap (stands e.link) (sym line) ∙ t.stands) in breaks_one e.link times now pair e refl a.0 a.1 t
tables_by_end pair e Joined times now line t =
    let a : (has_session e.link ≡ true) × (stands e.link Apart ≡ false) = joined_link e.link (ap (stands e.link) (sym line) ∙ t.stands) in breaks_one e.link times now pair e refl a.0 a.1 t

-- Welcomes and a Reset

recovery_link : (link : AppLink) → stands link Asking ≡ true → link ≡ Recovery
recovery_link NotConnected s = absurd (false≢true s)
recovery_link NormalLink s = absurd (false≢true s)
recovery_link (Trouble broke try_at) s = absurd (false≢true s)
recovery_link Recovery s = refl

-- A new session.
pub tables_by_meeting : (pair : Pair) (e : AppEnd) (times : Times) (now number epoch since : ℕ) (front : Front) → e.line ≡ Greeting → AppTables pair e
    → AppTables (record { session = Some number; broke = None }) (record e { link = app_next times now e.link WelcomedEvent; line = Joined; told = number; session = Some (session_put since [] (new_session number epoch front)) })
tables_by_meeting pair e times now number epoch since front line t =
    subst (λ (l : AppLink). AppTables (record { session = Some number; broke = None }) (record e { link = app_next times now l WelcomedEvent; line = Joined; told = number; session = Some (session_put since [] (new_session number epoch front)) }))
    (sym (greeting_link e.link (ap (stands e.link) (sym line) ∙ t.stands)))
    (record { session = refl; connected = refl; broke = refl; stands = refl; normal_due = refl })

-- A session that goes on.
pub tables_by_going_on : (pair : Pair) (e : AppEnd) (s : Session) (times : Times) (now synced since : ℕ) → e.session ≡ Some s → e.line ≡ Asking → AppTables pair e
    → AppTables pair (record e { link = settled_link s.normal_due times now e.link; line = Joined; session = Some (session_put since [] (synced_up synced s)) })
tables_by_going_on pair e s times now synced since there line t =
    with_one pair (record e { link = settled_link s.normal_due times now e.link; line = Joined; session = Some (session_put since [] (synced_up synced s)) }) (session_put since [] (synced_up synced s)) refl
    (go s.normal_due e.link (recovery_link e.link (ap (stands e.link) (sym line) ∙ t.stands)) t.broke)
  where
    go : (due : Bool) (link : AppLink) → link ≡ Recovery → pair.broke ≡ broke_in link
        → (pair.session ≡ Some s.number) × (has_session (settled_link due times now link) ≡ true) × (pair.broke ≡ broke_in (settled_link due times now link)) × (stands (settled_link due times now link) Joined ≡ true)
        × (due_stands (settled_link due times now link) Joined due ≡ true)
    go true link same broke = ((the_one pair e s there t).0, ap has_session same, broke, ap (λ (l : AppLink). stands l Joined) same, ap (λ (l : AppLink). due_stands l Joined true) same)
    go false link same broke = (
      (the_one pair e s there t).0,
      ap (λ (l : AppLink). has_session (app_next times now l SettledEvent)) same,
      broke ∙ ap broke_in same ∙ sym (ap (λ (l : AppLink). broke_in (app_next times now l SettledEvent)) same),
      ap (λ (l : AppLink). stands (app_next times now l SettledEvent) Joined) same,
      ap (λ (l : AppLink). due_stands (app_next times now l SettledEvent) Joined false) same,
    )

-- One that learns of a new epoch.
pub tables_by_learning : (pair : Pair) (e : AppEnd) (s : Session) (epoch since : ℕ) (front : Front) (put : List Up) → e.session ≡ Some s → e.line ≡ Asking → AppTables pair e
    → AppTables pair (record e { line = Joined; session = Some (session_put since put (in_epoch epoch front s)) })
tables_by_learning pair e s epoch since front put there line t =
    with_one pair (record e { line = Joined; session = Some (session_put since put (in_epoch epoch front s)) }) (session_put since put (in_epoch epoch front s)) refl
    (go e.link (recovery_link e.link (ap (stands e.link) (sym line) ∙ t.stands)) t.broke)
  where
    go : (link : AppLink) → link ≡ Recovery → pair.broke ≡ broke_in link → (pair.session ≡ Some s.number) × (has_session link ≡ true) × (pair.broke ≡ broke_in link) × (stands link Joined ≡ true) × (due_stands link Joined true ≡ true)
    go link same broke = ((the_one pair e s there t).0, ap has_session same, broke, ap (λ (l : AppLink). stands l Joined) same, ap (λ (l : AppLink). due_stands l Joined true) same)

-- A session is lost.
pub tables_by_loss : (pair : Pair) (e : AppEnd) (state : LinkName) (reason : Reason) → AppTables pair e → AppTables (record { session = None; broke = None }) (without_session state reason e)
tables_by_loss pair e state reason t = record { session = refl; connected = refl; broke = refl; stands = go e.line; normal_due = tt }
  where
    go : (l : Line) → stands NotConnected (line_after_loss l) ≡ true
    go Apart = refl
    go Trying = refl
    go Greeting = refl
    go Asking = refl
    go Joined = refl

-- connections that are made or tried

greets_one : (pair : Pair) (e : AppEnd) (link : AppLink) → e.link ≡ link → link ≡ NotConnected → AppTables pair e → AppTables pair (greeting_end e)
greets_one pair e link same free t = record {
  session = t.session;
  connected = t.connected;
  broke = t.broke;
  stands = ap (λ (l : AppLink). stands l Greeting) (same ∙ free);
  normal_due = none e.session (sym (ap has_session (same ∙ free)) ∙ t.connected);
}
  where
    none : (o : Option Session) → false ≡ is_some o → IfSome o (λ s. due_stands e.link Greeting s.normal_due ≡ true)
    none None h = tt
    none (Some s) h = absurd (false≢true h)

trying_link : (link : AppLink) → stands link Trying ≡ true → link ≡ Recovery → ⊥
trying_link NotConnected s same = absurd (cc (same))
trying_link NormalLink s same = absurd (false≢true s)
trying_link (Trouble broke try_at) s same = absurd (cc (same))
trying_link Recovery s same = absurd (false≢true s)

-- the pair is mended where it was in trouble
abbrev pub mended_by : AppLink → Pair → Pair
mended_by NotConnected pair = pair
mended_by NormalLink pair = pair
mended_by (Trouble broke try_at) pair = record pair { broke = None }
mended_by Recovery pair = pair

-- the end on its new connection
abbrev pub connected_end : AppLink → Times → ℕ → AppEnd → AppEnd
connected_end NotConnected times now e = greeting_end e
connected_end NormalLink times now e = greeting_end e
connected_end (Trouble broke try_at) times now e = asking_end times now e
connected_end Recovery times now e = greeting_end e

-- A connection is there.
pub tables_by_connection : (pair : Pair) (e : AppEnd) (link : AppLink) (times : Times) (now : ℕ) → e.link ≡ link → e.line ≡ Trying → AppTables pair e → AppTables (mended_by link pair) (connected_end link times now e)
tables_by_connection pair e NotConnected times now same line t = greets_one pair e NotConnected same refl t
tables_by_connection pair e NormalLink times now same line t = absurd (false≢true (ap (stands NormalLink) (sym line) ∙ ap (λ (l : AppLink). stands l e.line) (sym same) ∙ t.stands))
tables_by_connection pair e (Trouble broke try_at) times now same line t = record {
  session = t.session ∙ sym (number e.session);
  connected = ap (λ (l : AppLink). has_session (app_next times now l ConnectedEvent)) same ∙ sym (ap has_session same) ∙ t.connected ∙ sym (some e.session);
  broke = sym (ap (λ (l : AppLink). broke_in (app_next times now l ConnectedEvent)) same);
  stands = ap (λ (l : AppLink). stands (app_next times now l ConnectedEvent) Asking) same;
  normal_due = subst (λ (l : AppLink). IfSome (option_map (with_window with_ack_put) e.session) (λ s. due_stands (app_next times now l ConnectedEvent) Asking s.normal_due ≡ true)) (sym same) (due (option_map (with_window with_ack_put) e.session));
}
  where
    number : (o : Option Session) → option_map number_of (option_map (with_window with_ack_put) o) ≡ option_map number_of o
    number None = refl
    number (Some s) = refl

    some : (o : Option Session) → is_some (option_map (with_window with_ack_put) o) ≡ is_some o
    some None = refl
    some (Some s) = refl

    due : (o : Option Session) → IfSome o (λ s. due_stands Recovery Asking s.normal_due ≡ true)
    due None = tt
    due (Some s) = refl
tables_by_connection pair e Recovery times now same line t = absurd (false≢true (ap (stands Recovery) (sym line) ∙ ap (λ (l : AppLink). stands l e.line) (sym same) ∙ t.stands))

due_trouble : (broke try_at : ℕ) (line : Line) (o : Option Session) → IfSome o (λ s. due_stands (Trouble broke try_at) line s.normal_due ≡ true)
due_trouble broke try_at line None = tt
due_trouble broke try_at line (Some s) = refl

-- An attempt failed.
pub tables_by_failure : (pair : Pair) (e : AppEnd) (link : AppLink) (times : Times) (before later now : ℕ) → e.link ≡ link → e.line ≡ Trying → AppTables pair e → AppTables pair (failed_end link times before later now e)
tables_by_failure pair e NotConnected times before later now same line t = go (line_changes pair e Apart same refl t)
  where
    go : AppTables pair (with_line Apart e) → AppTables pair (failed_end NotConnected times before later now e)
    go x = record { session = x.session; connected = x.connected; broke = x.broke; stands = x.stands; normal_due = x.normal_due }
tables_by_failure pair e NormalLink times before later now same line t = absurd (false≢true (ap (stands NormalLink) (sym line) ∙ ap (λ (l : AppLink). stands l e.line) (sym same) ∙ t.stands))
tables_by_failure pair e (Trouble broke try_at) times before later now same line t = record {
  session = t.session;
  connected = ap (λ (l : AppLink). has_session (app_next times now l ConnectFailed)) same ∙ sym (ap has_session same) ∙ t.connected;
  broke = t.broke ∙ ap broke_in same ∙ sym (ap (λ (l : AppLink). broke_in (app_next times now l ConnectFailed)) same);
  stands = ap (λ (l : AppLink). stands (app_next times now l ConnectFailed) Apart) same;
  normal_due = subst (λ (l : AppLink). IfSome e.session (λ s. due_stands (app_next times now l ConnectFailed) Apart s.normal_due ≡ true)) (sym same) (due_trouble broke (until now times.retry) Apart e.session);
}
tables_by_failure pair e Recovery times before later now same line t = absurd (false≢true (ap (stands Recovery) (sym line) ∙ ap (λ (l : AppLink). stands l e.line) (sym same) ∙ t.stands))

-- an end in trouble tries a connection
tried_one : (pair : Pair) (e : AppEnd) (broke try_at : ℕ) (apart : Bool) → e.link ≡ Trouble broke try_at → AppTables pair e → AppTables pair (tried_if apart e)
tried_one pair e broke try_at true same t = record {
  session = t.session;
  connected = t.connected;
  broke = t.broke;
  stands = ap (λ (l : AppLink). stands l Trying) same;
  normal_due = subst (λ (l : AppLink). IfSome e.session (λ s. due_stands l Trying s.normal_due ≡ true)) (sym same) (due_trouble broke try_at Trying e.session);
}
tried_one pair e broke try_at false same t = t

-- A pair that was joined again.
pub tables_by_join : (pair : Pair) (e : AppEnd) (link : AppLink) → e.link ≡ link → AppTables pair e → AppTables pair (rejoined link e)
tables_by_join pair e NotConnected same t = t
tables_by_join pair e NormalLink same t = t
tables_by_join pair e (Trouble broke try_at) same t = tried_one pair e broke try_at (is_apart e.line) same t
tables_by_join pair e Recovery same t = t

-- the pair has no session once the time is over
abbrev pub lost_by : Bool → Pair → Pair
lost_by true pair = record { session = None; broke = None }
lost_by false pair = pair

abbrev pub ticked_by : AppLink → Times → ℕ → Pair → Pair
ticked_by NotConnected times now pair = pair
ticked_by NormalLink times now pair = pair
ticked_by (Trouble broke try_at) times now pair = lost_by (nat_le (until broke times.recover) now) pair
ticked_by Recovery times now pair = pair

-- A tick.
pub tables_by_tick : (pair : Pair) (e : AppEnd) (link : AppLink) (times : Times) (now : ℕ) → e.link ≡ link → AppTables pair e → AppTables (ticked_by link times now pair) (ticked_from link times now e)
tables_by_tick pair e NotConnected times now same t = t
tables_by_tick pair e NormalLink times now same t = t
tables_by_tick pair e (Trouble broke try_at) times now same t = go (nat_le (until broke times.recover) now) (nat_le try_at now)
  where
    go : (over may : Bool) → AppTables (lost_by over pair) (troubled over may broke now e)
    go true may = tables_by_loss pair e names.Trouble (reasons.Expired broke now) t
    go false true = tried_one pair e broke try_at (is_apart e.line) same t
    go false false = t
tables_by_tick pair e Recovery times now same t = t
