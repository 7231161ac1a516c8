-- A Recover in an older epoch: the session has the connection, and its Welcome leaves later.
use Rattle.std.proofs.Common.{◌≡◌, ◌≢◌, ◌≤◌, ℕ, Bool, true, List, [], length, Option, Some, None, is_some, refl, sym, ◌∙◌, ap, subst, arith, inr}
use Rattle.std.specs.Prelude.{IfSome, IsSomeAnd, set}
use Rattle.std.specs.List.{list_any}
use Rattle.std.proofs.lemmas.Bool.{false≢true}
use Rattle.plain_orders.specs.declared.entry.Entry.{Entry}
use Rattle.plain_orders.specs.Entries.{live}
use Rattle.plain_orders.specs.Sessions.{app_in}
use Rattle.plain_runs.specs.Plain.{Server}
use Rattle.ecp_messages.specs.declared.down.DownFrame.{DownFrame}
use Rattle.ecp_messages.specs.declared.up.UpFrame.{UpFrame}
use Rattle.end_words.specs.Windows.{Window, fresh}
use Rattle.ecp_messages.specs.declared.down.Down.{Down}
use Rattle.data_rules.specs.declared.down_frames.DownOut.{DownOut}
use Rattle.data_rules.specs.declared.rows.Role.{Role}
use Rattle.data_rules.specs.declared.rows.Role.TheVariants.{Bound}
use Rattle.data_rules.specs.DataState.{DataState}
use Rattle.data_rules.specs.Callers.{comes_again, dial_of, resumed, resumes}
use Rattle.data_rules.specs.Conns.{drops_conn, role_of}
use Rattle.data_rules.specs.Opening.{is_round_over}
use Rattle.data_rules.specs.Puts.{Sofar, becomes, begun, conn_of}
use Rattle.cluster_runs.specs.CoresState.{Linked}
use Rattle.cluster_runs.specs.Machine.{Site}
use Rattle.cluster_runs.specs.Sent.{Knew, Mark, Place}
use Rattle.cluster_runs.specs.Connections.{link_of}
use Rattle.cluster_invariant.specs.Dials.{BoundTo, CameFor, IsNewest, LinkedTo}
use Rattle.cluster_invariant.specs.Words.{is_reset_frame}
use Rattle.link_kept.proofs.WindowLists.{set_here}
use Rattle.dials_server.proofs.FrameSettled.{PutsFrames}
use Rattle.dials_server.proofs.RoundNodes.{OpenInv}
use Rattle.dials_server.proofs.SaveDials.{within_ordered}
use Rattle.dials_server.proofs.SaveNodes.{ReplyFits}
use Rattle.dials_server.proofs.TakenFrames.{site_taken}
use Rattle.dials_server.proofs.TellsNodes.{all_one_more}
use Rattle.dials_firsts.proofs.CutIfs.{callers_if, conns_if, cut_is, drops_if, gone_of, replies_if}
use Rattle.dials_firsts.proofs.FirstComes.{Comes, FirstAt}
use Rattle.dials_firsts.proofs.FirstStages.{after_site}
use Rattle.dials_firsts.proofs.QuietWindows.{QuietIn}
use Rattle.dials_firsts.proofs.ResumedNodes.{bound_at, bound_role_now, c_at, its_apart, link_if, linked_if, m, newest_if, nodes_if, noted_if}
use Rattle.dials_firsts.proofs.ResumedNodes.{order_is, replies_are, replies_now, stays_now, there_now}

-- whose a session is that a Recover named
pub came_by : (es : List Entry) (s : ℕ) (knew : Knew) (o : Option Mark) → IsSomeAnd o (λ mark. knew.session ≡ s) → CameFor es s knew o
came_by es s knew None none = absurd none
came_by es s knew (Some mark) came = came

-- the state as the session takes the connection
abbrev pub dropped_state : DataState → Linked → Option ℕ → DataState
dropped_state n l o =
    record n { dials = set n.dials l.app l.dial; conns = conns_if o n.conns; callers = callers_if o n.callers; replies = replies_if o n.replies }

abbrev pub dropped_so : DataState → Linked → Option ℕ → Sofar
dropped_so n l o = record { state = dropped_state n l o; outs = record { frames = []; cuts = gone_of o; acts = [] } }

pub drops_so : (n : DataState) (l : Linked) (o : Option ℕ) → drops_conn o (begun (record n { dials = set n.dials l.app l.dial })) ≡ dropped_so n l o
drops_so n l o =
    drops_if o (begun (record n { dials = set n.dials l.app l.dial }))
    ∙ ap (λ (d : DataState). record { state = d; outs = record { frames = []; cuts = gone_of o; acts = [] } })
    (cut_is o (record n { dials = set n.dials l.app l.dial }))

module _ (v : Server) (x : Site) (dead : ℕ → Bool) (n : DataState) (conn : ℕ) (l : Linked) (f : UpFrame) (at : FirstAt v x dead n conn l f) (now : ℕ)
    (later : dial_of n l.app ≤ l.dial) (s : ℕ)
    (opened : app_in n.order s ≡ Some l.app) (is_live : live n.order s ≡ true) (came : IsSomeAnd at.next.on.knew.mark (λ mark. at.next.on.knew.session ≡ s))
  where
    abbrev z : Site
    z = site_taken x conn l (Some l)

    abbrev o : Option ℕ
    o = conn_of n s

    abbrev left : DataState
    left = m v x dead n conn l f at now later s

    abbrev apart : o ≢ Some conn
    apart = its_apart v x dead n conn l f at now later s

    abbrev site : Site
    site = (c_at v x dead n conn l f at now later s).site

    -- A session that didn't learn of the order comes back.
    pub comes_return : (x.lane_at s x.past).began ≡ None → (kept : ℕ)
        → Comes v x dead n now conn f l (comes_again s conn kept (resumes l.app s l.dial conn now (begun n)))
    comes_return unlearnt kept = record {
      site = site;
      node = left;
      gone = gone_of o;
      dials = (c_at v x dead n conn l f at now later s).stage.dials;
      runs = (c_at v x dead n conn l f at now later s).stage.runs;
      past = (c_at v x dead n conn l f at now later s).past;
      order = order_is v x dead n conn l f at now later o apart;
      inv = subst (λ (c : Sofar). OpenInv site left (gone_of o) [] c) (sym made) inv;
      on = ap (λ (c : Sofar). is_round_over c.state c.state.round) made ∙ at.ends.round.is_on;
      known = λ q role. inr (subst (λ (c : Sofar). QuietIn c.state.windows q) (sym made)
          (quiet q (sym (ap (λ (c : Sofar). role_of c.state conn) made) ∙ role)));
      before = [];
      begins = [];
      frames = ap (λ (c : Sofar). c.outs.frames) made;
      puts =
          λ st outs rest same.
          subst (λ (fs : List DownOut). PutsFrames site (after_site n now conn f z (gone_of o) st outs) st fs) same
          ((c_at v x dead n conn l f at now later s).stage.puts st outs);
    }
      where
        b : Sofar
        b = comes_again s conn kept (becomes (resumed l.app s conn now) (dropped_so n l o))

        made : comes_again s conn kept (resumes l.app s l.dial conn now (begun n)) ≡ b
        made = ap (λ (c : Sofar). comes_again s conn kept (becomes (resumed l.app s conn now) c)) (drops_so n l o)

        none_begun : (site.lane_at s site.past).began ≡ None
        none_begun =
            subst (λ (k : ℕ). (site.lane_at s k).began ≡ None) (sym (c_at v x dead n conn l f at now later s).past)
            ((c_at v x dead n conn l f at now later s).began s ∙ unlearnt)

        linked : LinkedTo site conn l.app (BoundTo site n.order s)
        linked =
            linked_if v x dead n conn l f at now later o apart (BoundTo site n.order s)
            (λ c t. record {
              carries = subst (λ (p : Option Place). IfSome p (λ q. q ≡ record { session = s; order = site.past })) (sym t.its) tt;
              came = came_by n.order s c.knew c.knew.mark (subst (λ (k : Knew). IsSomeAnd k.mark (λ mark. k.session ≡ s)) (sym t.says) came);
              told = λ begun_so. absurd (false≢true (sym (ap (λ (p : Option ℕ). is_some p) none_begun) ∙ begun_so));
              silent = λ none. t.silent;
              unreset = ap (λ (gs : List DownFrame). list_any is_reset_frame gs) t.silent;
            })

        newest : IfSome (link_of site conn) (λ j. IsNewest (site.end_at l.app) s site.past j.dial)
        newest =
            subst (λ (p : Option Linked). IfSome p (λ j. IsNewest (site.end_at l.app) s site.past j.dial))
            (sym (link_if v x dead n conn l f at now later o apart))
            (newest_if v x dead n conn l f at now later o apart s)

        inv : OpenInv site left (gone_of o) [] b
        inv = record {
          nodes =
              bound_at v x dead n conn l f at now later s b.state refl refl refl is_live opened site
              (nodes_if v x dead n conn l f at now later o apart) linked newest;
          frames = tt;
          cuts = refl;
          noted = noted_if v x dead n conn l f at now later o apart;
          replies =
              all_one_more (ReplyFits site b.state) (replies_if o n.replies) _
              (replies_now v x dead n conn l f at now later s b.state refl refl refl is_live opened site (replies_are v x dead n conn l f at now later o apart))
              (bound_role_now v x dead n conn l f at now later s b.state refl refl refl is_live opened);
          there = there_now v x dead n conn l f at now later s b.state refl refl refl is_live opened;
          stays = stays_now v x dead n conn l f at now later s b.state refl refl refl is_live opened;
          longer = omega (arith, ap (λ (es : List Entry). length es) (order_is v x dead n conn l f at now later o apart));
          within = within_ordered n.order at.ordered;
          callers = tt;
          apart = refl;
        }

        quiet : (q : ℕ) → role_of b.state conn ≡ Some (Bound q) → QuietIn b.state.windows q
        quiet q role =
            subst (λ (i : ℕ). QuietIn b.state.windows i) (same
            (sym (bound_role_now v x dead n conn l f at now later s b.state refl refl refl is_live opened) ∙ role))
            (ap (λ (w : Window Down). w.since) (set_here n.windows s fresh))
          where
            same : ◌≡◌ {A = Option Role} (Some (Bound s)) (Some (Bound q)) → s ≡ q
            same both = cc (both)
