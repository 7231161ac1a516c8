-- The connection of a live session that didn't learn of the order, in the midst of a step: nothing was put on it but the Welcome that waited.
use Rattle.std.proofs.Common.{List, Option, Some, [], ap, arith, inl, inr, length, subst, sym, take, true, ℕ, ◌∙◌, ◌∷◌, ◌≡◌, ◌≤◌, ◌⊎◌}
use Rattle.std.proofs.lemmas.List.{append-nil, length-append, take_all}
use Rattle.cluster_invariant.proofs.PieceMay.{Coming}
use Rattle.cluster_invariant.specs.Coherence.{IsHeader}
use Rattle.cluster_invariant.specs.Words.{IsFront}
use Rattle.data_rules.specs.Conns.{role_of}
use Rattle.data_rules.specs.DataState.{DataState}
use Rattle.data_rules.specs.Leaving.{may_leave}
use Rattle.data_rules.specs.Puts.{Sofar, head_of}
use Rattle.data_rules.specs.declared.rows.Reply.{Reply}
use Rattle.data_rules.specs.declared.rows.Role.TheVariants.{Bound}
use Rattle.data_rules.specs.declared.rows.Says.{Says}
use Rattle.data_rules.specs.declared.rows.Says.TheVariants.{AnswerOf, EpochWelcome, GrantOf, NewWelcome, ResetOf}
use Rattle.ecp_messages.specs.declared.down.Down.{Down}
use Rattle.ecp_messages.specs.declared.down.DownFrame.{DownFrame}
use Rattle.ecp_messages.specs.declared.front.Front.{Front}
use Rattle.link_downs.proofs.OffConn.{listed}
use Rattle.link_downs.proofs.OnConn.{Beside, put_on, waiting_on}
use Rattle.link_downs.proofs.OrderPieces.{OrderStep}
use Rattle.link_kept.proofs.Later.{header_later}
use Rattle.plain_orders.proofs.Places.{counts_rise}
use Rattle.plain_orders.specs.Entries.{count, last_epoch}
use Rattle.plain_orders.specs.declared.entry.Entry.{Entry}
use Rattle.ecp_messages.specs.declared.down.Down.TheVariants as down

-- the Welcome of a new session
pub record NewLeft (old : DataState) (es : List Entry) (s : ℕ) (m : Down) : Type 0 where
  pub n : ℕ
  pub says : m ≡ down.Welcome s (last_epoch old.order) n (record { n = n; w = 0; s = 0 }) 0
  pub longer : length old.order ≤ n
  pub within : n ≤ length es

-- the Welcome of a new epoch
pub record EpochLeft (old : DataState) (es : List Entry) (synced s kept : ℕ) (m : Down) : Type 0 where
  pub front : Front
  pub says : m ≡ down.Welcome s (last_epoch old.order) kept front 0
  pub longer : length old.order ≤ front.n
  pub header : IsHeader es synced s front
  pub counted : front.w ≡ count old.order s

-- what a Welcome says that left
abbrev pub LeftSays : DataState → List Entry → ℕ → Says → Down → Type 0
LeftSays old es synced (NewWelcome conn s) m = NewLeft old es s m
LeftSays old es synced (EpochWelcome conn s kept) m = EpochLeft old es synced s kept m
LeftSays old es synced (ResetOf conn s place) m = ⊥
LeftSays old es synced (GrantOf s ticket number) m = ⊥
LeftSays old es synced (AnswerOf s about job number place sum) m = ⊥

-- a reply is a Welcome of this session on this connection
abbrev pub IsFirst : ℕ → ℕ → Says → Type 0
IsFirst q s (NewWelcome conn session) = (conn ≡ q) × (session ≡ s)
IsFirst q s (EpochWelcome conn session kept) = (conn ≡ q) × (session ≡ s)
IsFirst q s (ResetOf conn session place) = ⊥
IsFirst q s (GrantOf session ticket number) = ⊥
IsFirst q s (AnswerOf session about job number place sum) = ⊥

-- the Welcome that waited left
pub record LeftFirst (old : DataState) (q : ℕ) (ws : Option Reply) (b : Sofar) : Type 0 where
  pub reply : Reply
  pub waited : ws ≡ Some reply
  pub synced : may_leave b.state.synced reply ≡ true
  pub frame : DownFrame
  pub put : put_on q b.outs.frames ≡ frame ∷ []
  pub seq : frame.seq ≡ 0
  pub says : LeftSays old b.state.order b.state.synced reply.says frame.message

-- what waits on it is what waited, or nothing
abbrev pub WaitsStill : ℕ → Option Reply → Sofar → Type 0
WaitsStill q ws b = (waiting_on q b.state.replies ≡ []) ⊎ (waiting_on q b.state.replies ≡ listed ws)

abbrev pub FirstPut : DataState → ℕ → Option Reply → Sofar → Type 0
FirstPut old q ws b = ((put_on q b.outs.frames ≡ []) × WaitsStill q ws b) ⊎ (LeftFirst old q ws b × (waiting_on q b.state.replies ≡ []))

-- It is the session's still.
pub record Untold (old : DataState) (q s : ℕ) (ws : Option Reply) (b : Sofar) : Type 0 where
  pub role : role_of b.state q ≡ Some (Bound s)
  pub within : b.state.synced ≤ length b.state.order
  pub counted : count b.state.order s ≡ count old.order s
  pub what : FirstPut old q ws b

-- a change by which nothing is put on it and no more waits
pub record Fewer (q : ℕ) (ws : Option Reply) (b c : Sofar) : Type 0 where
  pub role : role_of c.state q ≡ role_of b.state q
  pub put : put_on q c.outs.frames ≡ put_on q b.outs.frames
  pub none : waiting_on q b.state.replies ≡ [] → waiting_on q c.state.replies ≡ []
  pub still : WaitsStill q ws b → WaitsStill q ws c

pub fewer_beside : (q : ℕ) (ws : Option Reply) (b c : Sofar) → Beside q b c → Fewer q ws b c
fewer_beside q ws b c x = record { role = x.role; put = x.put; none = λ is. x.waits ∙ is; still = go }
  where
    go : WaitsStill q ws b → WaitsStill q ws c
    go (inl is) = inl (x.waits ∙ is)
    go (inr is) = inr (x.waits ∙ is)

-- as the order goes on what it says is so
pub says_on_later : (old : DataState) (es fs : List Entry) (a b : ℕ) (says : Says) (m : Down) → IsFront es fs → a ≤ length es → a ≤ b
    → LeftSays old es a says m → LeftSays old fs b says m
says_on_later old es fs a b (NewWelcome conn s) m front within low is = record {
  n = is.n;
  says = is.says;
  longer = is.longer;
  within = subst (λ (xs : List Entry). is.n ≤ length xs) (sym front.1) (omega (arith, is.within, length-append es front.0));
}
says_on_later old es fs a b (EpochWelcome conn s kept) m front within low is = record {
  front = is.front;
  says = is.says;
  longer = is.longer;
  header = header_later es fs a b s is.front front within low is.header;
  counted = is.counted;
}
says_on_later old es fs a b (ResetOf conn s place) m front within low is = is
says_on_later old es fs a b (GrantOf s ticket number) m front within low is = is
says_on_later old es fs a b (AnswerOf s about job number place sum) m front within low is = is

-- an entry more, or none
pub front_step : (t : Coming) (b : Sofar) (es : List Entry) → OrderStep t b es → IsFront b.state.order es
front_step t b es (inl same) = ([], same ∙ sym (append-nil b.state.order))
front_step t b es (inr more) = (more.0 ∷ [], more.1)

-- so it stays
pub untold_fewer : (t : Coming) (q s : ℕ) (ws : Option Reply) (b c : Sofar) → Fewer q ws b c → c.state.synced ≡ b.state.synced → OrderStep t b c.state.order
    → count c.state.order s ≡ count b.state.order s → Untold t.old q s ws b → Untold t.old q s ws c
untold_fewer t q s ws b c x same order counts h = record {
  role = x.role ∙ h.role;
  within = omega (arith, same, h.within, ap (λ (es : List Entry). length es) front.1, length-append b.state.order front.0);
  counted = counts ∙ h.counted;
  what = go h.what;
}
  where
    front : IsFront b.state.order c.state.order
    front = front_step t b c.state.order order

    go : FirstPut t.old q ws b → FirstPut t.old q ws c
    go (inl silent) = inl (x.put ∙ silent.0, x.still silent.1)
    go (inr spoke) =
        inr (
          record {
            reply = spoke.0.reply;
            waited = spoke.0.waited;
            synced = subst (λ (n : ℕ). may_leave n spoke.0.reply ≡ true) (sym same) spoke.0.synced;
            frame = spoke.0.frame;
            put = x.put ∙ spoke.0.put;
            seq = spoke.0.seq;
            says =
                says_on_later t.old b.state.order c.state.order b.state.synced c.state.synced spoke.0.reply.says spoke.0.frame.message front h.within
                (omega (arith, same)) spoke.0.says;
          },
          x.none spoke.1,
        )

-- the header of what is put now
pub head_is : (d : DataState) (s : ℕ) → d.synced ≤ length d.order → IsHeader d.order d.synced s (head_of d s)
head_is d s within = record {
  within = omega arith;
  counted = ap (λ (es : List Entry). count es s) (sym (take_all (length d.order) d.order (omega arith)));
  synced = omega arith;
  below =
      subst (λ (es : List Entry). count (take d.synced d.order) s ≤ count es s) (take_all (length d.order) d.order (omega arith))
      (counts_rise 0 d.synced (length d.order) d.order s within);
}
