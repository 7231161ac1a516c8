-- What a step goes on from that takes a first frame, where another connection is ended or none.
use Rattle.std.proofs.Common.{◌≡◌, ◌≢◌, ◌≤◌, ◌<◌, ℕ, Bool, true, false, List, [], ◌∷◌, ◌++◌, map, filter, Option, Some, None, option_map, refl}
use Rattle.std.proofs.Common.{sym, ◌∙◌, ap, subst, arith}
use Rattle.std.specs.Prelude.{IfSome, IsSomeAnd}
use Rattle.std.specs.List.{AllByRecursion, find}
use Rattle.std.proofs.lemmas.Bool.{eq-eqb}
use Rattle.std.proofs.lemmas.List.{append-nil}
use Rattle.plain_runs.specs.Plain.{Server}
use Rattle.ecp_messages.specs.declared.up.UpFrame.{UpFrame}
use Rattle.data_rules.specs.declared.rows.Caller.{Caller}
use Rattle.data_rules.specs.declared.rows.Conn.{Conn}
use Rattle.data_rules.specs.declared.rows.Reply.{Reply}
use Rattle.data_rules.specs.declared.rows.Role.{Role}
use Rattle.data_rules.specs.declared.rows.Role.TheVariants.{Bound}
use Rattle.data_rules.specs.declared.rows.Says.{Says}
use Rattle.data_rules.specs.DataState.{DataState}
use Rattle.data_rules.specs.declared.limits.TheConstants.{APP_LIMIT}
use Rattle.data_rules.specs.Callers.{dial_of}
use Rattle.data_rules.specs.Conns.{drops_conn, is_conn, is_other_caller, is_other_conn, role_in, role_of, with_role_if, without_conn}
use Rattle.data_rules.specs.Puts.{Sofar, is_bound_to, is_reply_elsewhere, number_of, says_on}
use Rattle.cluster_runs.specs.Machine.{Site}
use Rattle.cluster_runs.specs.Sent.{Connection, FirstTaken}
use Rattle.cluster_runs.specs.Connections.{data_leaves, link_of}
use Rattle.cluster_runs.specs.Goes.{with_node}
use Rattle.cluster_invariant.specs.Dials.{CarriesOf, ConnectionIs, DialsAre, IsNewest, LinkedTo, NodeDials, is_connection_in, is_taken_in}
use Rattle.cluster_invariant.specs.Served.{HasLearnt}
use Rattle.cluster_invariant.specs.Words.{all_differ}
use Rattle.cluster_invariant.proofs.AllLists.{all_both, all_filtered, all_follow, all_passed}
use Rattle.cluster_invariant.proofs.ConnRoles.{bound_role, other_stays}
use Rattle.cluster_invariant.proofs.Small.{of_some}
use Rattle.dials_server.proofs.NodeConns.{differ_fewer, none_left}
use Rattle.dials_server.proofs.SaveNodes.{ReplyFits}
use Rattle.dials_firsts.proofs.CutStages.{kept_cut, learnt_cut, links_cut, not_true, reply_cut, role_cut, site_cut, stage_cut, unlearnt_cut}
use Rattle.dials_firsts.proofs.FirstStages.{Stage, after_site}
use Rattle.dials_firsts.proofs.RoleLists.{role_filtered}

-- the state, and what was ended
abbrev pub cut_if : Option ℕ → DataState → DataState
cut_if None d = d
cut_if (Some old) d = without_conn old d

abbrev pub gone_of : Option ℕ → List ℕ
gone_of None = []
gone_of (Some old) = old ∷ []

abbrev pub conns_if : Option ℕ → List Conn → List Conn
conns_if None cs = cs
conns_if (Some old) cs = filter (is_other_conn old) cs

abbrev pub replies_if : Option ℕ → List Reply → List Reply
replies_if None rs = rs
replies_if (Some old) rs = filter (is_reply_elsewhere (says_on old)) rs

abbrev pub on_if : Option ℕ → Says → Bool
on_if None says = false
on_if (Some old) says = says_on old says

abbrev pub callers_if : Option ℕ → List Caller → List Caller
callers_if None cs = cs
callers_if (Some old) cs = filter (is_other_caller old) cs

-- the parts that change
pub cut_is : (o : Option ℕ) (d : DataState)
    → cut_if o d ≡ record d { conns = conns_if o d.conns; callers = callers_if o d.callers; replies = replies_if o d.replies }
cut_is None d = refl
cut_is (Some old) d = refl

-- dropping a connection makes it
pub drops_if : (o : Option ℕ) (b : Sofar) → drops_conn o b ≡ record { state = cut_if o b.state; outs = record b.outs { cuts = b.outs.cuts ++ gone_of o } }
drops_if None b = ap (λ (cs : List ℕ). record b { outs = record b.outs { cuts = cs } }) (sym (append-nil b.outs.cuts))
drops_if (Some old) b = refl

pub roles_if : (conn : ℕ) (o : Option ℕ) (r : Role) (cs : List Conn) → conns_if o (map (with_role_if conn r) cs) ≡ map (with_role_if conn r) (conns_if o cs)
roles_if conn None r cs = refl
roles_if conn (Some old) r cs = role_filtered conn old r cs

-- a session whose connection is ended has none
pub unbound_if : (s : ℕ) (cs : List Conn) (o : Option ℕ) → all_differ (map number_of cs) ≡ true
    → ((i : ℕ) → option_map role_in (find (is_conn i) cs) ≡ Some (Bound s) → option_map number_of (find (is_bound_to s) cs) ≡ Some i)
    → option_map number_of (find (is_bound_to s) cs) ≡ o → option_map number_of (find (is_bound_to s) (conns_if o cs)) ≡ None
unbound_if s cs None differ own its = its
unbound_if s cs (Some old) differ own its = go (option_map number_of (find (is_bound_to s) (filter (is_other_conn old) cs))) refl
  where
    role : (k : ℕ) → option_map number_of (find (is_bound_to s) (filter (is_other_conn old) cs)) ≡ Some k
        → option_map role_in (find (is_conn k) (filter (is_other_conn old) cs)) ≡ Some (Bound s)
    role k found = bound_role s (filter (is_other_conn old) cs) k (differ_fewer (is_other_conn old) cs differ) found

    apart : (k : ℕ) → option_map number_of (find (is_bound_to s) (filter (is_other_conn old) cs)) ≡ Some k → k ≢ old
    apart k found same =
        (let both : ◌≡◌ {A = Option Role} None (Some (Bound s))
        = sym (ap (option_map role_in) (none_left cs old)) ∙ ap (λ (i : ℕ). option_map role_in (find (is_conn i) (filter (is_other_conn old) cs))) (sym same)
        ∙ role k found in absurd cc)

    number : (i j : ℕ) → ◌≡◌ {A = Option ℕ} (Some i) (Some j) → i ≡ j
    number i j same = cc (same)

    go : (p : Option ℕ) → option_map number_of (find (is_bound_to s) (filter (is_other_conn old) cs)) ≡ p → p ≡ None
    go None found = refl
    go (Some k) found =
        absurd (apart k found (number k old (sym (own k (sym (ap (option_map role_in) (other_stays cs old k (apart k found))) ∙ role k found)) ∙ its)))

-- what is known of replies elsewhere
pub all_elsewhere : (P : Reply → Type 0) (o : Option ℕ) (rs : List Reply) → AllByRecursion (λ (r : Reply). on_if o r.says ≡ false → P r) rs
    → AllByRecursion P (replies_if o rs)
all_elsewhere P None rs all = all_follow (λ (r : Reply). false ≡ false → P r) P (λ r at. at refl) rs all
all_elsewhere P (Some old) rs all =
    all_follow (λ (r : Reply). (says_on old r.says ≡ false → P r) × (is_reply_elsewhere (says_on old) r ≡ true)) P
    (λ r both. both.0 (not_true (says_on old r.says) both.1))
    (filter (is_reply_elsewhere (says_on old)) rs)
    (all_both (λ (r : Reply). says_on old r.says ≡ false → P r) (λ (r : Reply). is_reply_elsewhere (says_on old) r ≡ true)
    (filter (is_reply_elsewhere (says_on old)) rs)
    (all_filtered (λ (r : Reply). says_on old r.says ≡ false → P r) (is_reply_elsewhere (says_on old)) rs all)
    (all_passed (is_reply_elsewhere (says_on old)) rs))

-- What the step goes on from.
pub record CutStage (v : Server) (dead : ℕ → Bool) (n k : DataState) (now conn : ℕ) (f : UpFrame) (z : Site) (o : Option ℕ) : Type 1 where
  pub site : Site
  pub stage : Stage v dead site (cut_if o k) (gone_of o) (after_site n now conn f z (gone_of o))
  pub past : site.past ≡ z.past
  pub began : (s : ℕ) → (site.lane_at s z.past).began ≡ (z.lane_at s z.past).began
  pub learnt : (s : ℕ) → HasLearnt z s → HasLearnt site s
  pub links : (i : ℕ) → link_of site i ≡ link_of z i
  pub kept : (P Q : Connection → Type 0) → ((c : Connection) → P c → Q c) → ((c : Connection) → P c → Q (data_leaves c)) → (a d : ℕ)
      → IsSomeAnd ((z.end_at a).connection_at d) P → IsSomeAnd ((site.end_at a).connection_at d) Q
  pub role : (i : ℕ) → o ≢ Some i → role_of (cut_if o k) i ≡ role_of k i
  pub reply : (r : Reply) → ReplyFits (with_node now k z) k r → on_if o r.says ≡ false → ReplyFits site (cut_if o k) r

pub cut_stage : (v : Server) (z : Site) (dead : ℕ → Bool) (n k : DataState) (now conn : ℕ) (f : UpFrame)
    → Stage v dead (with_node now k z) k [] (after_site n now conn f z [])
    → (o : Option ℕ) → CutStage v dead n k now conn f z o
cut_stage v z dead n k now conn f stage None = record {
  site = with_node now k z;
  stage = stage;
  past = refl;
  began = λ s. refl;
  learnt = λ s at. at;
  links = λ i. refl;
  kept = λ P Q same leaves a d at. same_on P Q same ((z.end_at a).connection_at d) at;
  role = λ i apart. refl;
  reply = λ r at other. at;
}
  where
    same_on : (P Q : Connection → Type 0) → ((c : Connection) → P c → Q c) → (p : Option Connection) → IsSomeAnd p P → IsSomeAnd p Q
    same_on P Q same None at = at
    same_on P Q same (Some c) at = same c at
cut_stage v z dead n k now conn f stage (Some old) = record {
  site = site_cut v z dead n k now conn old f stage;
  stage = stage_cut v z dead n k now conn old f stage;
  past = refl;
  began = unlearnt_cut v z dead n k now conn old f stage;
  learnt = learnt_cut v z dead n k now conn old f stage;
  links = links_cut v z dead n k now conn old f stage;
  kept = kept_cut v z dead n k now conn old f stage;
  role = λ i apart. role_cut v z dead n k now conn old f stage i (λ same. apart (ap (λ (j : ℕ). Some j) (sym same)));
  reply = reply_cut v z dead n k now conn old f stage;
}

-- What a data connection is linked to stays so.
pub linked_cut : (v : Server) (dead : ℕ → Bool) (n k : DataState) (now conn : ℕ) (f : UpFrame) (z : Site) (o : Option ℕ)
    (at : CutStage v dead n k now conn f z o) (i a : ℕ) (P Q : Connection → Type 0)
    → ((c : Connection) → P c → Q c) → ((c : Connection) → P c → Q (data_leaves c)) → LinkedTo z i a P → LinkedTo at.site i a Q
linked_cut v dead n k now conn f z o at i a P Q same leaves is = record {
  dial = is.dial;
  link = at.links i ∙ is.link;
  first =
      subst (λ (j : ℕ). IsSomeAnd ((at.site.end_at a).connection_at is.dial) (λ c. c.first ≡ Some (record { order = j; conn = i }))) (sym at.past)
      (at.kept (λ c. c.first ≡ Some (record { order = z.past; conn = i })) (λ c. c.first ≡ Some (record { order = z.past; conn = i })) (λ c was. was)
      (λ c was. was) a is.dial is.first);
  its = at.kept P Q same leaves a is.dial is.its;
}

-- The greatest connection carries the messages of no later one.
pub newest_of : (v : Server) (u : Site) (dead : ℕ → Bool) (m : DataState) (app s d : ℕ) → DialsAre v u dead → NodeDials u m → app < APP_LIMIT
    → dial_of m app ≤ d → IsNewest (u.end_at app) s u.past d
newest_of v u dead m app s d is nodes low most number = go ((u.end_at app).connection_at number) refl ((is.pairs app).each number)
  where
    first : (o : Option FirstTaken) → IsSomeAnd o (λ f. f.order ≡ u.past) → is_taken_in u.past o ≡ true
    first None none = absurd none
    first (Some f) at = eq-eqb f.order u.past at

    go : (o : Option Connection) → (u.end_at app).connection_at number ≡ o → IfSome o (ConnectionIs v u app number)
        → IfSome o (λ c. c.its ≡ Some (record { session = s; order = u.past }) → number ≤ d)
    go None it at = tt
    go (Some c) it at =
        λ its.
        omega (
          arith,
          (nodes.dials app low).greatest number
              (ap (is_connection_in u.past) it ∙ first c.first
              (of_some (CarriesOf v app c.first) c.its (record { session = s; order = u.past }) its at.its).order),
          most,
        )
