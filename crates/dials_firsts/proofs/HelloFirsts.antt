-- A Hello that is taken while its application server has no session: a session opens, or it waits for the end of the round.
use Rattle.std.proofs.Common.{◌≡◌, ◌≢◌, ◌≤◌, ◌<◌, ℕ, Bool, true, false, cond, List, [], ◌∷◌, length, map, Option, Some, None, is_some, option_map}
use Rattle.std.proofs.Common.{refl, sym, ◌∙◌, ap, subst, inr}
use Rattle.std.specs.Prelude.{set}
use Rattle.std.specs.List.{AllByRecursion, find}
use Rattle.plain_orders.specs.Entries.{live_session}
use Rattle.plain_orders.specs.Ordered.{IsOrdered}
use Rattle.plain_runs.specs.Plain.{Server, order_at}
use Rattle.ecp_messages.specs.declared.up.UpFrame.{UpFrame}
use Rattle.recovery_round.specs.RoundWords.{Round}
use Rattle.data_rules.specs.declared.down_frames.DownOut.{DownOut}
use Rattle.data_rules.specs.declared.rows.Caller.{Caller}
use Rattle.data_rules.specs.declared.rows.Conn.{Conn}
use Rattle.data_rules.specs.declared.rows.Role.{Role}
use Rattle.data_rules.specs.declared.rows.Role.TheVariants.{New, Waiting, Bound}
use Rattle.data_rules.specs.DataState.{DataState}
use Rattle.data_rules.specs.Callers.{caller_conn, dial_of, is_caller, waiting_conn, with_caller}
use Rattle.data_rules.specs.Conns.{drops_conn, is_conn, role_in, role_of, with_role, with_role_if}
use Rattle.data_rules.specs.Opening.{is_round_over, opens}
use Rattle.data_rules.specs.Puts.{Sofar, becomes, begun}
use Rattle.cluster_runs.specs.CoresState.{Linked}
use Rattle.cluster_runs.specs.Machine.{Site}
use Rattle.cluster_runs.specs.Sent.{Connection, Knew}
use Rattle.cluster_invariant.specs.Dials.{LinkedTo}
use Rattle.cluster_invariant.specs.Ends.{CallerIs, HelloAlone}
use Rattle.dials_server.proofs.FrameSettled.{PutsFrames}
use Rattle.dials_server.proofs.OpenedNodes.{IsFresh}
use Rattle.dials_server.proofs.RoundNodes.{OpenInv, open_state}
use Rattle.dials_server.proofs.SaveDials.{fresh_at}
use Rattle.dials_server.proofs.TakenFrames.{site_taken}
use Rattle.dials_firsts.proofs.CutIfs.{CutStage, cut_is, gone_of}
use Rattle.dials_firsts.proofs.FirstComes.{Comes, FirstAt}
use Rattle.dials_firsts.proofs.FirstStages.{after_site, ended_at}
use Rattle.dials_firsts.proofs.OpenedFirsts.{hello_opens, none_over, opens_quiet, opens_round}
use Rattle.dials_firsts.proofs.OpensRoles.{opens_waits}
use Rattle.dials_firsts.proofs.ResumedNodes.{TakenNow, conns_are, dials_are, left_if, linked_if, order_is, replies_are, stage_if, waits_if}
use Rattle.dials_firsts.proofs.ReturnedFirsts.{drops_so, dropped_so}
use Rattle.dials_firsts.proofs.RoleLists.{found_for, waits_unbound}
use Rattle.dials_firsts.proofs.ShortFirsts.{has_nodes, new_role}

-- the Hello alone is on it
pub hello_alone : (past conn : ℕ) (knew : Knew) → knew.mark ≡ None → (c : Connection) → TakenNow past conn knew c → HelloAlone c
hello_alone past conn knew hello c t = record { hello = ap (λ (k : Knew). k.mark) t.says ∙ hello; one = t.alone; taken = t.one; silent = t.silent; its = t.its }

-- one that is found among those that all are so
pub found_so : (P : Caller → Type 0) (p : Caller → Bool) (cs : List Caller) (c : Caller) → find p cs ≡ Some c → AllByRecursion P cs → P c
found_so P p [] c found all = absurd (cc (found))
found_so P p (d ∷ ds) c found all = go (p d) found (found_so P p ds c)
  where
    same : (i j : Caller) → ◌≡◌ {A = Option Caller} (Some i) (Some j) → i ≡ j
    same i j both = cc (both)

    go : (b : Bool) → cond b (Some d) (find p ds) ≡ Some c → (find p ds ≡ Some c → AllByRecursion P ds → P c) → P c
    go true is more = subst P (same d c is) all.0
    go false is more = more is all.1

module _ (v : Server) (x : Site) (dead : ℕ → Bool) (n : DataState) (conn : ℕ) (l : Linked) (f : UpFrame) (at : FirstAt v x dead n conn l f) (now : ℕ)
    (later : dial_of n l.app ≤ l.dial)
    (hello : at.next.on.knew.mark ≡ None)
  where
    abbrev z : Site
    z = site_taken x conn l (Some l)

    abbrev d0 : DataState
    d0 = record n { dials = set n.dials l.app l.dial }

    -- sessions that aren't there yet
    pub fresh_if : (o : Option ℕ) (apart : o ≢ Some conn) → (s : ℕ) → length (left_if v x dead n conn l f at now later o apart).order < s
        → IsFresh (stage_if v x dead n conn l f at now later o apart).site s
    fresh_if o apart =
        fresh_at v (stage_if v x dead n conn l f at now later o apart).site dead (left_if v x dead n conn l f at now later o apart).order
        (ap (order_at v) (stage_if v x dead n conn l f at now later o apart).past ∙ at.order ∙ sym (order_is v x dead n conn l f at now later o apart))
        (subst IsOrdered (sym (order_is v x dead n conn l f at now later o apart)) at.ordered) (stage_if v x dead n conn l f at now later o apart).stage.dials

    pub hello_linked : (o : Option ℕ) (apart : o ≢ Some conn) → LinkedTo (stage_if v x dead n conn l f at now later o apart).site conn l.app HelloAlone
    hello_linked o apart = linked_if v x dead n conn l f at now later o apart HelloAlone (hello_alone x.past conn at.next.on.knew hello)

    none_apart : None ≢ Some conn
    none_apart same = cc (same)

    -- In no round a session opens.
    pub comes_opens : is_some n.round ≡ false → live_session n.order l.app ≡ None → Comes v x dead n now conn f l (opens l.app conn now (begun d0))
    comes_opens off free = record {
      site = cut.site;
      node = left_if v x dead n conn l f at now later None none_apart;
      gone = [];
      dials = cut.stage.dials;
      runs = cut.stage.runs;
      past = cut.past;
      order = refl;
      inv =
          subst (λ (c : Sofar). OpenInv cut.site (left_if v x dead n conn l f at now later None none_apart) [] [] c) made
          (hello_opens cut.site (left_if v x dead n conn l f at now later None none_apart) [] (fresh_if None none_apart) l.app conn now
          (becomes (with_role conn Waiting) (begun d0))
          (waits_if v x dead n conn l f at now later None none_apart) free (hello_linked None none_apart) cut.stage.inv);
      on = none_over (opens l.app conn now (begun d0)).state (opens l.app conn now (begun d0)).state.round
          (ap (λ (o : Option Round). is_some o) (opens_round l.app conn now (begun d0)) ∙ off);
      known = λ q role. inr (opens_quiet l.app conn now (begun d0) (found_for New (find (is_conn conn) n.conns) (new_role v x dead n conn l f at)) q role);
      before = [];
      begins = (opens l.app conn now (begun d0)).outs.frames;
      frames = refl;
      puts = λ st outs rest same. subst (λ (fs : List DownOut). PutsFrames cut.site (after_site n now conn f z [] st outs) st fs) same (cut.stage.puts st outs);
    }
      where
        cut : CutStage v dead n (record n { dials = set n.dials l.app l.dial; conns = map (with_role_if conn Waiting) n.conns }) now conn f z None
        cut = stage_if v x dead n conn l f at now later None none_apart

        made : opens l.app conn now (becomes (with_role conn Waiting) (begun d0)) ≡ opens l.app conn now (begun d0)
        made = opens_waits conn l.app now (begun d0) (waits_unbound conn n.conns (has_nodes v x dead n conn l f at).differ (new_role v x dead n conn l f at))

    -- In a round it waits, in place of an older one.
    pub comes_waits : Comes v x dead n now conn f l (becomes (with_caller l.app conn) (drops_conn (waiting_conn d0 l.app) (begun d0)))
    comes_waits = record {
      site = cut.site;
      node = left;
      gone = gone_of o;
      dials = cut.stage.dials;
      runs = cut.stage.runs;
      past = cut.past;
      order = order_is v x dead n conn l f at now later o apart;
      inv = subst (λ (c : Sofar). OpenInv cut.site left (gone_of o) [] c) (sym made) inv;
      on = ap (λ (c : Sofar). is_round_over c.state c.state.round) made ∙ at.ends.round.is_on;
      known = λ q role. absurd (unbound q role);
      before = [];
      begins = [];
      frames = ap (λ (c : Sofar). c.outs.frames) made;
      puts = λ st outs rest same. subst (λ (fs : List DownOut). PutsFrames cut.site (after_site n now conn f z (gone_of o) st outs) st fs) same
          (cut.stage.puts st outs);
    }
      where
        o : Option ℕ
        o = waiting_conn n l.app

        apart : o ≢ Some conn
        apart same = go (find (is_caller l.app) n.callers) refl same
          where
            waits : (c : Caller) → find (is_caller l.app) n.callers ≡ Some c → role_of n c.conn ≡ Some Waiting
            waits c found = (found_so (CallerIs n x) (is_caller l.app) n.callers c found at.ends.callers.each).waits

            number : (i j : ℕ) → ◌≡◌ {A = Option ℕ} (Some i) (Some j) → i ≡ j
            number i j both = cc (both)

            go : (p : Option Caller) → find (is_caller l.app) n.callers ≡ p → option_map caller_conn p ≡ Some conn → ⊥
            go None found none = cc (none)
            go (Some c) found its =
                (let both : ◌≡◌ {A = Option Role} (Some New) (Some Waiting)
                = sym (new_role v x dead n conn l f at) ∙ ap (role_of n) (sym (number c.conn conn its)) ∙ waits c found in absurd cc)

        cut : CutStage v dead n (record n { dials = set n.dials l.app l.dial; conns = map (with_role_if conn Waiting) n.conns }) now conn f z o
        cut = stage_if v x dead n conn l f at now later o apart

        left : DataState
        left = left_if v x dead n conn l f at now later o apart

        b : Sofar
        b = becomes (with_caller l.app conn) (dropped_so n l o)

        made : becomes (with_caller l.app conn) (drops_conn (waiting_conn d0 l.app) (begun d0)) ≡ b
        made = ap (becomes (with_caller l.app conn)) (drops_so n l o)

        inv : OpenInv cut.site left (gone_of o) [] b
        inv =
            open_state cut.site left (gone_of o) [] (ended_at left (gone_of o)) b b.state (sym (conns_are v x dead n conn l f at now later o apart))
            (sym (order_is v x dead n conn l f at now later o apart)) (sym (dials_are v x dead n conn l f at now later o apart))
            (sym (ap (λ (d : DataState). d.noted) (cut_is o (record n { dials = set n.dials l.app l.dial; conns = map (with_role_if conn Waiting) n.conns }))))
            (replies_are v x dead n conn l f at now later o apart) refl tt refl cut.stage.inv

        unbound : (q : ℕ) → role_of (becomes (with_caller l.app conn) (drops_conn (waiting_conn d0 l.app) (begun d0))).state conn ≡ Some (Bound q) → ⊥
        unbound q role =
            (let both : ◌≡◌ {A = Option Role} (Some Waiting) (Some (Bound q))
            = sym (ap (λ (c : Sofar). role_of c.state conn) made
            ∙ ap (λ (cs : List Conn). option_map role_in (find (is_conn conn) cs)) (sym (conns_are v x dead n conn l f at now later o apart))
            ∙ waits_if v x dead n conn l f at now later o apart) ∙ role in absurd cc)
