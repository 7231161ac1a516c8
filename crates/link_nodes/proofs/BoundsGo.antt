-- The connections of sessions in the midst of a step: each session has one alone, and where it comes from is known.
use Rattle.std.proofs.Common.{◌≡◌, ◌≢◌, ◌≤◌, ◌<◌, ◌⊎◌, inl, inr, ℕ, true, List, [], ◌∷◌, ◌++◌, map, length, Option, Some, None, is_some, option_map, refl, sym, ◌∙◌, ap, subst, arith}
use Rattle.std.specs.List.{find}
use Rattle.plain_orders.specs.declared.entry.Entry.{Entry}
use Rattle.plain_orders.specs.declared.entry.Entry.TheVariants.{Closed}
use Rattle.plain_orders.specs.Entries.{live}
use Rattle.plain_orders.specs.Sessions.{app_in}
use Rattle.ecp_messages.specs.declared.up.Up.TheVariants.{Recover}
use Rattle.data_rules.specs.declared.rows.Caller.{Caller}
use Rattle.data_rules.specs.declared.rows.Conn.{Conn}
use Rattle.data_rules.specs.declared.rows.Role.{Role}
use Rattle.data_rules.specs.declared.rows.Role.TheVariants.{New, Bound}
use Rattle.data_rules.specs.Callers.{dial_of}
use Rattle.data_rules.specs.Conns.{is_conn, role_in, with_role_if}
use Rattle.cluster_invariant.proofs.ConnRoles.{bound_role}
use Rattle.cluster_invariant.proofs.PieceMay.{Came, Coming}
use Rattle.cluster_invariant.proofs.PiecesOfCloses.{role_given}
use Rattle.data_pieces.proofs.CallersGo.{role_other}
use Rattle.data_pieces.proofs.ConnLists.{Differ, conn_for, for_bound, role_at}
use Rattle.dials_server.proofs.ClosedNodes.{there_still}
use Rattle.link_kept.proofs.WindowsGo.{other_live, same_or}

-- what a connection is for where one of them is told what it is for

some_found : (o : Option Conn) → is_some (option_map role_in o) ≡ true → is_some o ≡ true
some_found None is = is
some_found (Some c) is = refl

same_roles : (r q : Role) → Some r ≡ Some q → r ≡ q
same_roles r q is = cc

pub role_set : (conn m : ℕ) (r q : Role) (cs : List Conn) → role_at m (map (with_role_if conn r) cs) ≡ Some q → ((m ≡ conn) × (q ≡ r)) ⊎ ((m ≢ conn) × (role_at m cs ≡ Some q))
role_set conn m r q cs is = go (same_or m conn)
  where
    go : (m ≡ conn) ⊎ (m ≢ conn) → ((m ≡ conn) × (q ≡ r)) ⊎ ((m ≢ conn) × (role_at m cs ≡ Some q))
    go (inl same) = inl (same, same_roles q r (sym at ∙ role_given conn r cs there))
      where
        at : role_at conn (map (with_role_if conn r) cs) ≡ Some q
        at = ap (λ (k : ℕ). role_at k (map (with_role_if conn r) cs)) (sym same) ∙ is

        there : is_some (find (is_conn conn) cs) ≡ true
        there = some_found (find (is_conn conn) cs) (sym (there_still conn r conn cs) ∙ ap (λ (o : Option Role). is_some o) at)
    go (inr apart) = inr (apart, sym (role_other conn m r cs apart) ∙ is)

-- where the connection of a session comes from

-- a Recover of the session came on it, on a dial that is no older than those before
pub record CameBack (t : Coming) (es : List Entry) (conn session : ℕ) : Type 0 where
  pub app : ℕ
  pub epoch : ℕ
  pub taken : ℕ
  pub dial : ℕ
  pub came : Came t conn (Recover app session epoch taken dial)
  pub opened : app_in es session ≡ Some app
  pub was_there : app_in t.old.order session ≡ Some app
  pub was_new : role_at conn t.old.conns ≡ Some New
  pub later : dial_of t.old app ≤ dial

-- or the session opened in the step, for a Hello on it
pub record OpenedNow (t : Coming) (W : Caller → Type 0) (es : List Entry) (conn session : ℕ) : Type 0 where
  pub app : ℕ
  pub called : W (record { conn = conn; app = app })
  pub opened : app_in es session ≡ Some app
  pub above : length t.old.order < session

-- or it was the session's before
abbrev pub Whence : Coming → (Caller → Type 0) → List Entry → ℕ → ℕ → Type 0
Whence t W es conn session = (role_at conn t.old.conns ≡ Some (Bound session)) ⊎ (OpenedNow t W es conn session ⊎ CameBack t es conn session)

pub record BoundsGo (t : Coming) (W : Caller → Type 0) (cs : List Conn) (es : List Entry) : Type 0 where
  pub lives : (m s : ℕ) → role_at m cs ≡ Some (Bound s) → live es s ≡ true
  pub only : (m w s : ℕ) → role_at m cs ≡ Some (Bound s) → role_at w cs ≡ Some (Bound s) → w ≡ m
  pub whence : (m s : ℕ) → role_at m cs ≡ Some (Bound s) → Whence t W es m s
  pub longer : length t.old.order ≤ length es

module _ (t : Coming) (W : Caller → Type 0) where
  -- some of them go, or come for none
  pub bounds_fewer : (cs ds : List Conn) (es : List Entry) → ((m s : ℕ) → role_at m ds ≡ Some (Bound s) → role_at m cs ≡ Some (Bound s)) → BoundsGo t W cs es → BoundsGo t W ds es
  bounds_fewer cs ds es before h = record {
    lives = λ m s is. h.lives m s (before m s is);
    only = λ m w s is also. h.only m w s (before m s is) (before w s also);
    whence = λ m s is. h.whence m s (before m s is);
    longer = h.longer;
  }

  -- one is told that it is for no session
  pub bounds_other : (conn : ℕ) (r : Role) (cs : List Conn) (es : List Entry) → ((s : ℕ) → r ≡ Bound s → ⊥) → BoundsGo t W cs es → BoundsGo t W (map (with_role_if conn r) cs) es
  bounds_other conn r cs es apart h = bounds_fewer cs (map (with_role_if conn r) cs) es (λ m s is. go m s (role_set conn m r (Bound s) cs is)) h
    where
      go : (m s : ℕ) → ((m ≡ conn) × (Bound s ≡ r)) ⊎ ((m ≢ conn) × (role_at m cs ≡ Some (Bound s))) → role_at m cs ≡ Some (Bound s)
      go m s (inl here) = absurd (apart s (sym here.1))
      go m s (inr there) = there.1

  whence_later : (es fs : List Entry) (m s : ℕ) → ((a : ℕ) → app_in es s ≡ Some a → app_in fs s ≡ Some a) → Whence t W es m s → Whence t W fs m s
  whence_later es fs m s apps (inl was) = inl was
  whence_later es fs m s apps (inr (inl now)) = inr (inl (record { app = now.app; called = now.called; opened = apps now.app now.opened; above = now.above }))
  whence_later es fs m s apps (inr (inr back)) =
      inr (inr (record { app = back.app; epoch = back.epoch; taken = back.taken; dial = back.dial; came = back.came; opened = apps back.app back.opened; was_there = back.was_there; was_new = back.was_new; later = back.later }))

  -- a list that goes on, by which no session of a connection ends
  pub bounds_order : (cs : List Conn) (es fs : List Entry) → ((m s : ℕ) → role_at m cs ≡ Some (Bound s) → live es s ≡ true → live fs s ≡ true) → ((s a : ℕ) → app_in es s ≡ Some a → app_in fs s ≡ Some a)
      → length es ≤ length fs → BoundsGo t W cs es → BoundsGo t W cs fs
  bounds_order cs es fs lives apps longer h = record {
    lives = λ m s is. lives m s is (h.lives m s is);
    only = h.only;
    whence = λ m s is. whence_later es fs m s (apps s) (h.whence m s is);
    longer = omega (arith, h.longer, longer);
  }

  same_sessions : (q s : ℕ) → Bound q ≡ Bound s → q ≡ s
  same_sessions q s is = cc

  -- one is told whose it is, or is as it was
  abbrev Sets : ℕ → ℕ → List Conn → ℕ → ℕ → Type 0
  Sets conn s cs m q = ((m ≡ conn) × (Bound q ≡ Bound s)) ⊎ ((m ≢ conn) × (role_at m cs ≡ Some (Bound q)))

  -- one becomes that of a live session which had none
  pub bounds_given : (conn s : ℕ) (cs : List Conn) (es : List Entry) → ((m : ℕ) → role_at m cs ≡ Some (Bound s) → ⊥) → live es s ≡ true → Whence t W es conn s → BoundsGo t W cs es
      → BoundsGo t W (map (with_role_if conn (Bound s)) cs) es
  bounds_given conn s cs es free is_live whence h = record {
    lives = λ m q is. lives m q (set m q is);
    only = λ m w q is also. only m w q (set m q is) (set w q also);
    whence = λ m q is. from m q (set m q is);
    longer = h.longer;
  }
    where
      set : (m q : ℕ) → role_at m (map (with_role_if conn (Bound s)) cs) ≡ Some (Bound q) → Sets conn s cs m q
      set m q is = role_set conn m (Bound s) (Bound q) cs is

      lives : (m q : ℕ) → Sets conn s cs m q → live es q ≡ true
      lives m q (inl here) = ap (live es) (same_sessions q s here.1) ∙ is_live
      lives m q (inr there) = h.lives m q there.1

      none : (m q : ℕ) → Bound q ≡ Bound s → role_at m cs ≡ Some (Bound q) → ⊥
      none m q same at = free m (at ∙ ap (λ (r : Role). Some r) same)

      only : (m w q : ℕ) → Sets conn s cs m q → Sets conn s cs w q → w ≡ m
      only m w q (inl here) (inl also) = also.0 ∙ sym here.0
      only m w q (inl here) (inr there) = absurd (none w q here.1 there.1)
      only m w q (inr there) (inl here) = absurd (none m q here.1 there.1)
      only m w q (inr there) (inr also) = h.only m w q there.1 also.1

      from : (m q : ℕ) → Sets conn s cs m q → Whence t W es m q
      from m q (inl here) = subst (λ (k : ℕ). Whence t W es k q) (sym here.0) (subst (λ (k : ℕ). Whence t W es conn k) (sym (same_sessions q s here.1)) whence)
      from m q (inr there) = h.whence m q there.1

  -- the session of a connection that is found has it
  pub bounds_its : (cs : List Conn) (es : List Entry) (m s : ℕ) → Differ cs → BoundsGo t W cs es → role_at m cs ≡ Some (Bound s) → conn_for s cs ≡ Some m
  bounds_its cs es m s differ h is = go (conn_for s cs) refl (for_bound m s cs is)
    where
      go : (o : Option ℕ) → conn_for s cs ≡ o → is_some o ≡ true → conn_for s cs ≡ Some m
      go None its some = absurd cc
      go (Some w) its some = its ∙ ap (λ (k : ℕ). Some k) (h.only m w s is (bound_role s cs w differ its))

  -- a session is closed that has no connection any more
  pub bounds_close : (s : ℕ) (cs ds : List Conn) (es : List Entry) → ((m q : ℕ) → role_at m ds ≡ Some (Bound q) → role_at m cs ≡ Some (Bound q)) → ((m : ℕ) → role_at m ds ≡ Some (Bound s) → ⊥)
      → ((q a : ℕ) → app_in es q ≡ Some a → app_in (es ++ Closed s ∷ []) q ≡ Some a) → length es ≤ length (es ++ Closed s ∷ []) → BoundsGo t W cs es → BoundsGo t W ds (es ++ Closed s ∷ [])
  bounds_close s cs ds es before gone apps longer h =
      bounds_order ds es (es ++ Closed s ∷ [])
      (λ m q is lives. other_live es s q (λ same. gone m (is ∙ ap (λ (k : ℕ). Some (Bound k)) same)) lives) apps longer (bounds_fewer cs ds es before h)
