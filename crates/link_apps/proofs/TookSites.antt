-- A site after a joined end took a frame that told it nothing new.
use Rattle.std.proofs.Common.{◌≡◌, ◌⊎◌, ℕ, ◌+◌, ◌-◌, max, Bool, true, false, List, ◌∷◌, ◌++◌, length, drop, Option, Some, refl, sym, ◌∙◌, ap, subst, arith}
use Rattle.std.specs.Prelude.{IfSome}
use Rattle.std.proofs.lemmas.List.{length-drop}
use Rattle.std.proofs.Math.Seq.{drop-append_seam}
use Rattle.plain_runs.specs.Plain.{Server}
use Rattle.ecp_messages.specs.declared.up.Up.{Up}
use Rattle.ecp_messages.specs.declared.down.DownFrame.{DownFrame}
use Rattle.end_words.specs.Windows.{Window, sent}
use Rattle.app_rules.specs.declared.app_in.AppIn.{AppIn}
use Rattle.app_rules.specs.declared.app_in.AppIn.TheVariants as app_in
use Rattle.app_rules.specs.declared.app_outs.AppOuts.{AppOuts}
use Rattle.app_rules.specs.AppState.{AppState, AppEnd}
use Rattle.app_rules.specs.AppStep.{made}
use Rattle.app_rules.specs.Works.{begun, end_at}
use Rattle.app_rules.specs.Looks.{Shown}
use Rattle.cluster_runs.specs.Connections.{at_number, down_taken, ups_to, with_ups}
use Rattle.cluster_runs.specs.Goes.{input_site, message_from}
use Rattle.cluster_runs.specs.Lanes.{given_since, with_app_step}
use Rattle.cluster_runs.specs.Machine.{Site, End}
use Rattle.cluster_runs.specs.Sent.{Lane, Place, Connection}
use Rattle.cluster_invariant.specs.Ends.{EndsAre}
use Rattle.cluster_invariant.specs.Link.{LinkHolds}
use Rattle.cluster_invariant.specs.Words.{downs_left, is_normal_down}
use Rattle.link_apps.proofs.FrameTook.{Took}
use Rattle.link_apps.proofs.JoinedFirst.{JoinedFirst, joined_first}
use Rattle.link_apps.proofs.JoinedNow.{JoinedNow}
use Rattle.link_apps.proofs.JoinedTakes.{LaneTook, Takes, joined_now_by_takes}
use Rattle.link_apps.proofs.TakenSites.{EndTakes, beside_is, conn_is, elsewhere_is, ends_are, lane_is, others_are}
use Rattle.link_apps.proofs.PutSteps.{own_after}

-- what a window was given behind what it had sent, as an acknowledgement came
pub given_took : (s t : Window Up) (ack : ℕ) (ms : List Up) → t.acked ≡ max s.acked ack → t.waiting ≡ drop (ack - s.acked) s.waiting ++ ms → given_since (sent s) t ≡ ms
given_took s t ack ms acked waiting =
    ap (drop (s.acked + length s.waiting - t.acked)) waiting
    ∙ ap (λ (n : ℕ). drop n (drop (ack - s.acked) s.waiting ++ ms)) (omega (arith, acked, length-drop (ack - s.acked) s.waiting))
    ∙ drop-append_seam (drop (ack - s.acked) s.waiting) ms

module _ (v : Server) (x : Site) (dead : ℕ → Bool) (app d : ℕ) (frame : DownFrame) (a : AppState) (outs : AppOuts) (state : AppState) (shown : ℕ → Shown)
    (alive : dead app ≡ false) (link : LinkHolds v x dead) (are : EndsAre v x dead) (c : Connection)
    (its : (x.end_at app).connection_at (x.end_at app).state.dial ≡ Some c) (rest : List DownFrame) (left : downs_left c ≡ frame ∷ rest)
    (tk : Took d frame (x.end_at app).state (begun a) (made state outs)) where
  abbrev e : End
  e = x.end_at app

  abbrev t : AppEnd
  t = end_at state d

  abbrev input : AppIn
  input = app_in.Frame d frame

  abbrev y : Site
  y = input_site app input outs state shown d x

  abbrev pub took_takes : EndTakes d e.state outs state
  took_takes = record {
    us = tk.us;
    was = tk.was;
    session = tk.session;
    has = tk.has;
    now = ap (λ (z : AppEnd). z.session) tk.here.end;
    dial = ap (λ (z : AppEnd). z.dial) tk.here.end;
    epoch = tk.takes.epoch;
    frames = tk.here.frames;
    cuts = tk.here.cuts;
  }

  place : JoinedFirst v x app tk.was c frame rest
  place = joined_first v x dead app alive link are tk.was c frame rest tk.line tk.has its left tk.not_reset

  abbrev k : ℕ
  k = place.place.k

  abbrev pub end_took : End
  end_took = own_after (with_ups tk.us) t (shown d) (at_number e.state.dial down_taken e)

  lane_took : LaneTook tk.ms tk.session.window.taken (x.lane_at tk.was.number k)
      (with_app_step false (message_from d input) e.state.dial (sent tk.was.window) (Some tk.session) (ups_to d outs.frames) (x.lane_at tk.was.number k))
  lane_took = record {
    began = refl;
    up = ap (λ (xs : List Up). (x.lane_at tk.was.number k).up ++ xs) (given_took tk.was.window tk.session.window frame.ack tk.ms tk.takes.acked tk.takes.waiting);
    up_taken = refl;
    down = refl;
    down_taken = refl;
  }

  -- the end took the frame
  takes_at : Takes x y app end_took c frame rest tk.ms tk.us
  takes_at = record {
    beside = beside_is x app d frame outs state shown c its took_takes k place.place.told;
    ends = ends_are x app d frame outs state shown c its took_takes k place.place.told;
    its = its;
    left = left;
    conn = conn_is x app d frame outs state shown c its took_takes k place.place.told;
    others = others_are x app d frame outs state shown c its took_takes k place.place.told;
    line = tk.line;
    line_now = ap (λ (z : AppEnd). z.line) tk.here.end ∙ tk.line;
    dial = took_takes.dial;
    told = refl;
    was = tk.was;
    session = tk.session;
    has = tk.has;
    now = took_takes.now;
    number = tk.takes.number;
    not_reset = tk.not_reset;
    link =
        subst (λ (z : AppEnd). (is_normal_down frame.message ≡ true) ⊎ (z.link ≡ e.state.link)) (sym tk.here.end) tk.takes.link;
    acked = tk.takes.acked;
    waiting = tk.takes.waiting;
    taken = tk.takes.taken;
    numbered = tk.takes.numbered;
    frames = tk.takes.frames;
    acks = tk.takes.acks;
    own =
        subst (λ (o : Option Place). IfSome o (λ p. LaneTook tk.ms tk.session.window.taken (x.lane_at tk.was.number p.order) (y.lane_at tk.was.number p.order))) (sym place.place.told)
        (subst (λ (z : Lane). LaneTook tk.ms tk.session.window.taken (x.lane_at tk.was.number k) z) (sym (lane_is x app d frame outs state shown c its took_takes k place.place.told)) lane_took);
    elsewhere = elsewhere_is x app d frame outs state shown c its took_takes k place.place.told;
  }

  -- So what is on its way follows.
  pub site_took : JoinedNow v x y dead app end_took c rest tk.us
  site_took = joined_now_by_takes v x y dead app end_took alive link are c frame rest tk.ms tk.us takes_at
