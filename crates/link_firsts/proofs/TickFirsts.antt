-- A tick puts nothing on a connection that was no session's that learnt of the order.
use Rattle.std.proofs.Common.{Bool, List, None, Option, Some, [], ap, cond, filter, is_some, map, refl, subst, sym, true, ℕ, ◌∙◌, ◌∷◌, ◌≡◌, ◌≢◌}
use Rattle.std.proofs.lemmas.Bool.{false≢true, ne_eqb}
use Rattle.std.specs.List.{AllByRecursion}
use Rattle.block_holders.specs.declared.noted.Noted.{Noted}
use Rattle.cluster_invariant.proofs.AllLists.{all_follow}
use Rattle.cluster_invariant.proofs.PieceMay.{Coming}
use Rattle.cluster_invariant.specs.Link.{NodeLink}
use Rattle.cluster_invariant.specs.Served.{IsServed}
use Rattle.cluster_invariant.specs.Waiting.{ReplyWaits, WaitsFor}
use Rattle.cluster_invariant.specs.Words.{is_begun}
use Rattle.cluster_runs.specs.Connections.{down_of}
use Rattle.cluster_runs.specs.Machine.{Site}
use Rattle.cluster_runs.specs.Sent.{Lane}
use Rattle.data_pieces.proofs.ConnLists.{Differ, role_at}
use Rattle.data_rules.specs.Conns.{role_of}
use Rattle.data_rules.specs.DataState.{DataState}
use Rattle.data_rules.specs.Opening.{live_ends}
use Rattle.data_rules.specs.Puts.{begun}
use Rattle.data_rules.specs.Step.{DataStep, made}
use Rattle.data_rules.specs.declared.data_outs.DataOuts.{DataOuts}
use Rattle.data_rules.specs.declared.down_frames.DownOut.{DownOut}
use Rattle.data_rules.specs.declared.rows.Reply.{Reply}
use Rattle.data_rules.specs.declared.rows.Role.TheVariants.{Bound}
use Rattle.data_rules.specs.declared.rows.Says.{Says}
use Rattle.data_rules.specs.declared.rows.Says.TheVariants.{AnswerOf, EpochWelcome, GrantOf, NewWelcome, ResetOf}
use Rattle.link_downs.proofs.OnConn.{is_on, put_on}
use Rattle.link_nodes.proofs.RepliesGo.{ReplyGo, SaysGo}
use Rattle.link_nodes.proofs.TickReplies.{TickFrame, TickGo, ticks_go}
use Rattle.plain_runs.specs.Plain.{Server}
use Rattle.data_rules.specs.declared.data_in.DataIn.TheVariants as data_in

-- frames elsewhere aren't on it
pub none_on : (q : ℕ) (fs : List DownOut) → AllByRecursion (λ (f : DownOut). f.conn ≡ q → ⊥) fs → put_on q fs ≡ []
none_on q [] all = refl
none_on q (f ∷ fs) all = ap (λ (b : Bool). map down_of (cond b (f ∷ filter (is_on q) fs) (filter (is_on q) fs))) (ne_eqb f.conn q all.0) ∙ none_on q fs all.1

says_old : (v : Server) (x : Site) (n : DataState) (at : ℕ) (says : Says) → WaitsFor v x n at says → SaysGo (λ s. x.lane_at s x.past) n.conns n.order at says
says_old v x n at (NewWelcome conn s) is = record { until = is.place; bound = is.bound; unlearnt = is.unlearnt }
says_old v x n at (EpochWelcome conn s kept) is = record { until = is.place; bound = is.bound; unlearnt = is.unlearnt }
says_old v x n at (ResetOf conn s place) is = record { until = is.until; closing = is.closing; closed = is.closed }
says_old v x n at (GrantOf s ticket number) is = tt
says_old v x n at (AnswerOf s about job number place sum) is = tt

module _ (v : Server) (x : Site) (dead : ℕ → Bool) (old next : DataState) (now : ℕ) (outs : DataOuts) (node : NodeLink v x dead old) (differ : Differ old.conns)
    (steps : DataStep old now data_in.Tick outs next) where
  abbrev t : Coming
  t = record { old = old; now = now; input = data_in.Tick }

  abbrev lane_of : ℕ → Lane
  lane_of s = x.lane_at s x.past

  abbrev Any : Reply → Type 0
  Any r = Unit {0}

  went : TickGo lane_of Any t (made next outs)
  went =
      subst (TickGo lane_of Any t) (sym steps)
      (ticks_go lane_of Any t (λ at conn s place was. tt) (λ at s ticket number. tt) (live_ends old.order) now (begun old) (record {
        each =
            all_follow (ReplyWaits v x old) (ReplyGo lane_of Any old.conns old.order) (λ r is. (tt, says_old v x old r.at r.says is.says)) old.replies
            node.replies;
        one = node.one_each;
        frames = tt;
        noted =
            all_follow (λ (n : Noted). IsServed x old n.session) (λ (n : Noted). is_begun (lane_of n.session) ≡ true) (λ n is. is.learnt) old.noted
            node.serves.noted;
        was = λ n s is. is;
        differ = differ;
      }))

  -- Nothing is put.
  pub tick_silent : (q : ℕ) → ((s : ℕ) → role_of old q ≡ Some (Bound s) → (x.lane_at s x.past).began ≡ None) → put_on q outs.frames ≡ []
  tick_silent q unlearnt = none_on q outs.frames (all_follow (TickFrame lane_of old.conns) (λ (f : DownOut). f.conn ≡ q → ⊥) elsewhere outs.frames went.frames)
    where
      elsewhere : (f : DownOut) → TickFrame lane_of old.conns f → f.conn ≡ q → ⊥
      elsewhere f is same =
          false≢true (sym (ap (λ (o : Option ℕ). is_some o) (unlearnt is.session (ap (λ (i : ℕ). role_at i old.conns) (sym same) ∙ is.was))) ∙ is.learnt)
