-- The Drops that a data server puts to a session are those that its entries cause, and each Block, Ack and Bare has its cause.
use Rattle.std.specs.Prelude.{◌≡◌, ◌≤◌, ℕ, Bool, true, false, ◌==◌, ◌||◌, ◌*◌, ◌-◌, not, if◌then◌else◌, List, [], ◌∷◌, ◌++◌, length, take, drop}
use Rattle.std.specs.List.{filter, flat_map, list_any}
use Rattle.subscript_keys.specs.declared.run.Run.{Run}
use Rattle.subscript_keys.specs.declared.span.Span.{Span}
use Rattle.plain_orders.specs.declared.entry.Entry.{Entry}
use Rattle.plain_orders.specs.declared.entry.Entry.TheVariants as entries
use Rattle.plain_orders.specs.declared.act.Act.{Act}
use Rattle.plain_orders.specs.declared.act.Act.TheVariants as act
use Rattle.plain_orders.specs.declared.layout.Layout.{Layout}
use Rattle.plain_orders.specs.Entries.{count, closes}
use Rattle.plain_orders.specs.Fold.{fold}
use Rattle.plain_orders.specs.Spans.{entry_spans}
use Rattle.plain_orders.specs.ItemEntries.{is_item_of}
use Rattle.ecp_messages.specs.declared.down.Down.{Down}
use Rattle.ecp_messages.specs.declared.down.Down.TheVariants as down
use Rattle.ecp_messages.specs.declared.front.Front.{Front}
use Rattle.block_bytes.specs.Blocks.{IsBlockOf}
use Rattle.plain_runs.specs.Plain.{order_at}
use Rattle.plain_runs.specs.Run.{state_after}
use Rattle.end_words.specs.Runs.{meets, same_span, covers}
use Rattle.data_rules.specs.Places.{epoch_place}
use Rattle.cluster_runs.specs.Written.{written_while, has_order}
use Rattle.cluster_runs.specs.WireReads.{fetched_in}
use Rattle.cluster_runs.specs.Sent.{Sent, Lane, ups_taken}

-- what happens at the data end: an entry is appended, a message is put to the session, so many entries are synced
pub data Told : Type 0 where
  Appends : (e : Entry) → Told
  Puts : (m : Down) → Told
  Saves : (n : ℕ) → Told

-- What a data end has come to for a session: the order, how much is synced, the spans noted, the Drops that are due, whether items
-- were saved since the last Ack, and whether the session has a Close.
pub record Notes : Type 0 where
  pub order : List Entry
  pub synced : ℕ
  pub noted : List Span
  pub due : List Down
  pub saved : Bool
  pub closed : Bool

-- a header on an order, while so much of the whole is synced
abbrev pub head : List Entry → List Entry → ℕ → ℕ → Front
head order whole synced session = record { n = length order; w = count order session; s = count (take synced whole) session }

-- some of these spans meets it
abbrev pub is_met : List Span → Span → Bool
is_met spans span = list_any (meets span) spans

-- none of these spans meets it
abbrev pub is_unmet : List Span → Span → Bool
is_unmet spans span = not (is_met spans span)

-- nothing follows
abbrev pub is_last : List Span → Bool
is_last [] = true
is_last (x ∷ xs) = false

-- all but the last at the length before the entry, the last at the length with it
abbrev pub drops_of : List Entry → List Entry → ℕ → ℕ → List Span → List Down
drops_of before with_it synced session [] = []
drops_of before with_it synced session (x ∷ xs) =
    down.Drop (head (if is_last xs then with_it else before) with_it synced session) x.lo x.hi ∷ drops_of before with_it synced session xs

-- the notes of a session go as its Close is appended
abbrev pub without_notes : Bool → Notes → Notes
without_notes true t = record t { noted = []; closed = true }
without_notes false t = t

-- an entry more
abbrev pub with_entry : Notes → ℕ → Entry → Notes
with_entry t session e =
    record t {
      order = t.order ++ e ∷ [];
      noted = filter (is_unmet (entry_spans (fold t.order) e)) t.noted;
      due = drops_of t.order (t.order ++ e ∷ []) t.synced session (filter (is_met (entry_spans (fold t.order) e)) t.noted);
    }

-- an entry is appended
abbrev pub appended : Notes → ℕ → Entry → Notes
appended t session e = with_entry (without_notes (closes session e) t) session e

-- so many entries are synced
abbrev pub saved_upto : Notes → ℕ → ℕ → Notes
saved_upto t session n =
    record t { synced = n; saved = t.saved || list_any (is_item_of session) (drop t.synced (take n t.order)) }

-- a span that is noted already isn't noted a second time
abbrev pub with_noted : Span → List Span → List Span
with_noted span xs = if list_any (same_span span) xs then xs else xs ++ span ∷ []

-- the first of the Drops that are due is put
abbrev pub DropsFirst : List Down → Down → Notes → Notes → Type 0
DropsFirst [] m t u = ⊥
DropsFirst (d ∷ ds) m t u = (m ≡ d) × (u ≡ record t { due = ds })

-- a Block's very span is noted
pub record NotesBlock (t : Notes) (block : List ℕ) (u : Notes) : Type 0 where
  pub run : Run
  pub its : IsBlockOf run block
  pub none_due : t.due ≡ []
  pub after : u ≡ record t { noted = with_noted run.span t.noted }

-- an Ack follows a save of items
pub record AcksSaved (t u : Notes) : Type 0 where
  pub saved : t.saved ≡ true
  pub none_due : t.due ≡ []
  pub after : u ≡ record t { saved = false }

-- any other message leaves all as it is
pub record PutsOther (t u : Notes) : Type 0 where
  pub none_due : t.due ≡ []
  pub after : u ≡ t

-- what is put, by its kind
abbrev pub PutsMessage : Down → Notes → Notes → Type 0
PutsMessage (down.Welcome session epoch kept front taken) t u = ⊥
PutsMessage (down.Reset session at) t u = ⊥
PutsMessage (down.Block front block) t u = NotesBlock t block u
PutsMessage (down.Drop front lo hi) t u = DropsFirst t.due (down.Drop front lo hi) t u
PutsMessage (down.Ack front) t u = AcksSaved t u
PutsMessage (down.Grant front ticket at) t u = PutsOther t u
PutsMessage (down.Answer front about job number at sum) t u = PutsOther t u
PutsMessage (down.Normal front) t u = PutsOther t u
PutsMessage down.Bare t u = ⊥

-- a message is put, while the session has no Close, and then the rest is right
pub record PutsThen (m : Down) (t : Notes) (rest : Notes → Type 0) : Type 0 where
  pub unclosed : t.closed ≡ false
  pub put : Notes
  pub puts : PutsMessage m t put
  pub more : rest put

-- what is put is caused, one after the other; no Drop stays due
abbrev pub PutsFrom : ℕ → List Told → Notes → Type 0
PutsFrom session [] t = t.due ≡ []
PutsFrom session (Appends e ∷ ts) t = (t.due ≡ []) × PutsFrom session ts (appended t session e)
PutsFrom session (Puts m ∷ ts) t = PutsThen m t (PutsFrom session ts)
PutsFrom session (Saves n ∷ ts) t = PutsFrom session ts (saved_upto t session n)

-- the messages among what happened
abbrev pub puts_in : List Told → List Down
puts_in [] = []
puts_in (Appends e ∷ ts) = puts_in ts
puts_in (Puts m ∷ ts) = m ∷ puts_in ts
puts_in (Saves n ∷ ts) = puts_in ts

-- what is left without them
abbrev pub changes_in : List Told → List Told
changes_in [] = []
changes_in (Appends e ∷ ts) = Appends e ∷ changes_in ts
changes_in (Puts m ∷ ts) = changes_in ts
changes_in (Saves n ∷ ts) = Saves n ∷ changes_in ts

-- the entries among it
abbrev pub entries_in : List Told → List Entry
entries_in [] = []
entries_in (Appends e ∷ ts) = e ∷ entries_in ts
entries_in (Puts m ∷ ts) = entries_in ts
entries_in (Saves n ∷ ts) = entries_in ts

-- the number that was saved last, where it was this before
abbrev pub synced_after : ℕ → List Told → ℕ
synced_after synced [] = synced
synced_after synced (Appends e ∷ ts) = synced_after synced ts
synced_after synced (Puts m ∷ ts) = synced_after synced ts
synced_after synced (Saves n ∷ ts) = synced_after n ts

-- what an act changes of a data server's order, or how much of it is synced
abbrev pub changes_by : ℕ → Act → List Told
changes_by d (act.Opened server es) = []
changes_by d (act.Enter server entry) = if server == d then Appends entry ∷ [] else []
changes_by d (act.Synced server number) = if server == d then Saves number ∷ [] else []
changes_by d (act.Shut server session cause) = if server == d then Appends (entries.Closed session) ∷ [] else []
changes_by d (act.Release server session) = []
changes_by d (act.Met app server session) = []
changes_by d (act.Told app server session epoch kept) = []
changes_by d (act.Back server) = []
changes_by d (act.Crash server kept) = []
changes_by d (act.Issue job line server w item) = []
changes_by d (act.Read job line server at via question) = []
changes_by d (act.Grant server session job mode key at) = []
changes_by d (act.Granted job line server at) = []
changes_by d (act.GiveUp job line server mode key) = []
changes_by d (act.Quit job line server mode key) = []
changes_by d (act.Free server session job mode key) = []
changes_by d (act.Counted job line server at sum) = []
changes_by d (act.NotWhole job line server at) = []
changes_by d (act.Range job line server at) = []
changes_by d (act.Committed job line server at) = []
changes_by d (act.RolledBack job line server at) = []
changes_by d (act.Reached job line server at) = []
changes_by d (act.Level job line level) = []
changes_by d (act.Done job line) = []
changes_by d (act.Refused job line refusal) = []
changes_by d (act.Broke app server end time) = []
changes_by d (act.Mended app server) = []
changes_by d (act.Lose app server loss) = []
changes_by d (act.Died app) = []
changes_by d (act.Tick time) = []

-- what some acts change of it
abbrev pub changes_of : ℕ → List Act → List Told
changes_of server acts = flat_map (changes_by server) acts

-- what an order had when it began: all that was kept is synced, and its Epoch isn't
abbrev pub notes_after : List Entry → List Told → Notes
notes_after began before = record {
  order = began ++ entries_in before;
  synced = synced_after (length began - 1) before;
  noted = [];
  due = [];
  saved = false;
  closed = false;
}

-- an order as it began, with its Epoch
abbrev pub began_with : List Entry → List Entry
began_with order = take (epoch_place order) order

-- a Block
abbrev pub is_block : Down → Bool
is_block (down.Block front block) = true
is_block m = false

-- a Block's run covers a key
pub record BlockCovers (block key : List ℕ) : Type 0 where
  pub run : Run
  pub its : IsBlockOf run block
  pub covers_it : covers key run ≡ true

-- a Block covers a key
abbrev pub Covers : Down → List ℕ → Type 0
Covers (down.Block front block) key = BlockCovers block key
Covers m key = ⊥

-- the i-th Block covers the key of the i-th Fetch that was taken
abbrev pub BlocksAnswer : List Down → List (List ℕ) → Type 0
BlocksAnswer [] keys = Unit {0}
BlocksAnswer (b ∷ bs) [] = ⊥
BlocksAnswer (b ∷ bs) (key ∷ keys) = Covers b key × BlocksAnswer bs keys

-- Of what was put to a session and what its data server's order came to there is one course, from when its window began, in which each
-- Drop, Block and Ack has its cause.
pub record PutsRight (session : ℕ) (acts : List Act) (server : ℕ) (began : List Entry) (x : Lane) : Type 0 where
  -- what happened before its window began, and from then on
  pub before : List Told
  pub told : List Told
  pub changed : changes_of server acts ≡ before ++ changes_in told
  pub put : puts_in told ≡ x.down
  pub caused : PutsFrom session told (notes_after began before)
  pub blocks : BlocksAnswer (filter is_block x.down) (fetched_in (ups_taken x))
  pub down_bares : 64 * x.down_bares ≤ x.up_taken
  pub up_bares : 64 * x.up_bares ≤ x.down_taken

-- in each session and order
abbrev pub EachPutsRight : Layout → List Act → Sent → Type 0
EachPutsRight l trail sent = (server session k : ℕ)
    → PutsRight session (written_while l trail (has_order server k)) server
    (began_with (order_at ((state_after l trail).server_at server) k)) (sent.lane_at server session k)
