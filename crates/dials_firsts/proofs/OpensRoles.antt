-- A session that opens on a new connection: it is as if the connection had waited before.
use Rattle.std.proofs.Common.{◌≡◌, ℕ, ◌+◌, Bool, true, false, List, [], ◌∷◌, length, Option, Some, None, refl, sym, ◌∙◌, ap, subst}
use Rattle.std.specs.List.{list_any}
use Rattle.plain_orders.specs.declared.act.Act.TheVariants as act
use Rattle.plain_orders.specs.declared.entry.Entry.{Entry}
use Rattle.plain_orders.specs.declared.entry.Entry.TheVariants.{Opened}
use Rattle.link_states.specs.declared.link_event.LinkEvent.TheVariants as event
use Rattle.ecp_messages.specs.declared.down.Down.{Down}
use Rattle.ecp_messages.specs.declared.down.Down.TheVariants.{Drop}
use Rattle.ecp_messages.specs.declared.front.Front.{Front}
use Rattle.end_words.specs.Windows.{fresh, sent, with_sent}
use Rattle.block_holders.specs.declared.noted.Noted.{Noted}
use Rattle.block_holders.specs.HolderWords.{is_noted_for, touched}
use Rattle.data_rules.specs.declared.rows.Conn.{Conn}
use Rattle.data_rules.specs.declared.rows.Role.TheVariants.{Waiting, Bound}
use Rattle.data_rules.specs.declared.rows.Says.TheVariants.{NewWelcome}
use Rattle.data_rules.specs.DataState.{DataState}
use Rattle.data_rules.specs.Conns.{with_event, with_role}
use Rattle.data_rules.specs.Entering.{drop_head, drops, drops_one, enters, spans_of, with_entry}
use Rattle.data_rules.specs.Opening.{bound, opens}
use Rattle.data_rules.specs.Puts.{Sofar, becomes, conn_of, puts, replies, tells_on, window_of, with_window, writes}
use Rattle.cluster_invariant.proofs.PutLaws.{only_puts}
use Rattle.dials_firsts.proofs.RoleLists.{SameBounds, role_twice}

module _ (conn : ℕ) where
  abbrev waits : Sofar → Sofar
  waits b = becomes (with_role conn Waiting) b

  puts_waits : (s : ℕ) (m : Down) (b : Sofar) → SameBounds conn b.state.conns → puts s m (waits b) ≡ waits (puts s m b)
  puts_waits s m b same =
      ap (λ (o : Option ℕ). tells_on s o (sent (window_of b.state s) + 1) m (waits (becomes (λ d. with_window s (with_sent (window_of d s) m) d) b))) (same s)
      ∙ go (conn_of b.state s)
    where
      go : (o : Option ℕ) → tells_on s o (sent (window_of b.state s) + 1) m (waits (becomes (λ d. with_window s (with_sent (window_of d s) m) d) b))
          ≡ waits (tells_on s o (sent (window_of b.state s) + 1) m (becomes (λ d. with_window s (with_sent (window_of d s) m) d) b))
      go None = refl
      go (Some k) = refl

  head_waits : (t : Bool) (before s : ℕ) (b : Sofar) → drop_head t (waits b).state before s ≡ drop_head t b.state before s
  head_waits true before s b = refl
  head_waits false before s b = refl

  drops_waits : (before : ℕ) (xs : List Noted) (b : Sofar) → SameBounds conn b.state.conns → drops before xs (waits b) ≡ waits (drops before xs b)
  drops_waits before [] b same = refl
  drops_waits before (x ∷ xs) b same =
      ap (λ (h : Front). drops before xs (puts x.session (Drop h x.span.lo x.span.hi) (waits b)))
      (head_waits (list_any (is_noted_for x.session) xs) before x.session b)
      ∙ ap (drops before xs)
      (puts_waits x.session (Drop (drop_head (list_any (is_noted_for x.session) xs) b.state before x.session) x.span.lo x.span.hi) b same)
      ∙ drops_waits before xs (drops_one before x xs b)
      (subst (SameBounds conn) (sym (ap (λ (d : DataState). d.conns) (only_puts x.session _ b).state)) same)

  -- It opens the same session.
  pub opens_waits : (app now : ℕ) (b : Sofar) → SameBounds conn b.state.conns → opens app conn now (waits b) ≡ opens app conn now b
  opens_waits app now b same =
      ap (λ (c : Sofar). replies s (NewWelcome conn s) (becomes (bound app s conn now) c))
      (drops_waits (length b.state.order) (touched (spans_of entering.state e) b.state.noted)
      (becomes (with_entry e (spans_of entering.state e)) entering) same)
      ∙ ap (λ (cs : List Conn). replies s (NewWelcome conn s)
      (record after { state = with_event app now event.Opened (record (with_window s fresh after.state) { conns = cs }) }))
      (role_twice conn (Bound s) Waiting after.state.conns)
    where
      s : ℕ
      s = length b.state.order + 1

      e : Entry
      e = Opened s app

      entering : Sofar
      entering = writes (act.Enter b.state.server e) b

      after : Sofar
      after = enters e b
