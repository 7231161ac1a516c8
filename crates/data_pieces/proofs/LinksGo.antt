-- What holds of the data ends of a node in the midst of a step, against the plain server after the acts so far.
use Rattle.std.proofs.Common.{◌≡◌, ◌≢◌, ◌<◌, ℕ, Bool, true, List, Option, Some, None, is_some, option_map, length, refl, sym, ◌∙◌, ap, subst}
use Rattle.std.specs.Prelude.{IfSome, IsSomeAnd, get_or}
use Rattle.std.proofs.lemmas.List.{get_or-set_same, get_or-set_other}
use Rattle.std.specs.Prelude.{set}
use Rattle.std.proofs.lemmas.Bool.{eqb-true, eq-eqb, false≢true}
use Rattle.std.proofs.Common.{eqb, false}
use Rattle.plain_orders.specs.declared.entry.Entry.{Entry}
use Rattle.plain_orders.specs.Entries.{last_epoch, live_session}
use Rattle.plain_orders.specs.Ordered.{IsOrdered}
use Rattle.plain_runs.specs.Plain.{Server}
use Rattle.link_states.specs.declared.data_link.DataLink.{DataLink}
use Rattle.link_states.specs.declared.data_link.DataLink.TheVariants.{Free, Normal, Trouble, Recovering}
use Rattle.recovery_round.specs.RoundWords.{Round}
use Rattle.data_rules.specs.DataState.{DataState}
use Rattle.data_rules.specs.declared.limits.TheConstants.{APP_LIMIT}
use Rattle.data_rules.specs.Conns.{link_of}
use Rattle.cluster_invariant.specs.Ends.{LinkIs, due_in}
use Rattle.data_pieces.proofs.ConnLists.{Differ, conn_for}
use Rattle.data_pieces.proofs.PlainView.{SameView}

-- the ends of a node, and what they rest on
pub record LinksGo (d : ℕ) (v : Server) (n : DataState) : Type 0 where
  pub server : n.server ≡ d
  pub ordered : IsOrdered n.order
  pub started : last_epoch n.order ≢ 0
  pub order : v.order ≡ n.order
  pub differ : Differ n.conns
  pub places : length n.links ≡ APP_LIMIT
  pub links : (app : ℕ) → app < APP_LIMIT → LinkIs v n app (link_of n app)
  pub due : option_map due_in n.round ≡ v.due
  pub unbroken : IfSome n.round (λ r. (app : ℕ) → v.end_at app ≡ None)

-- what follows of each session that is there
pub some_also : (o : Option ℕ) (P Q : ℕ → Type 0) → ((s : ℕ) → o ≡ Some s → P s → Q s) → IsSomeAnd o P → IsSomeAnd o Q
some_also None P Q f h = absurd h
some_also (Some s) P Q f h = f s refl h

-- rounds that are due at the same moment

pub none_round : (r q : Option Round) → option_map due_in q ≡ option_map due_in r → r ≡ None → q ≡ None
none_round r None same none = refl
none_round r (Some q) same none = absurd (let is : Some q.due ≡ None = same ∙ ap (option_map due_in) none in cc)

pub in_round : (r q : Option Round) (due : ℕ) → option_map due_in q ≡ option_map due_in r → IsSomeAnd r (λ x. x.due ≡ due) → IsSomeAnd q (λ x. x.due ≡ due)
in_round None q due same h = absurd h
in_round (Some r) None due same h = absurd cc
in_round (Some r) (Some q) due same h = (let is : q.due ≡ r.due = cc in is ∙ h)

-- a round was on where one is
pub round_was : (P : Type 0) (r q : Option Round) → option_map due_in q ≡ option_map due_in r → IfSome r (λ x. P) → IfSome q (λ x. P)
round_was P r None same h = tt
round_was P None (Some q) same h = absurd cc
round_was P (Some r) (Some q) same h = h

-- An end stays as it is where what it is compared with does.
pub link_same : (v w : Server) (n k : DataState) (app : ℕ) (link : DataLink) → ((broke : ℕ) → link ≡ Trouble broke → w.end_at app ≡ v.end_at app)
    → option_map due_in k.round ≡ option_map due_in n.round → live_session k.order app ≡ live_session n.order app
    → ((s : ℕ) → live_session n.order app ≡ Some s → conn_for s k.conns ≡ conn_for s n.conns) → LinkIs v n app link → LinkIs w k app link
link_same v w n k app Free ends due live conns h = live ∙ h
link_same v w n k app Normal ends due live conns h = record {
  out_of_round = none_round n.round k.round due h.out_of_round;
  joined = subst (λ (o : Option ℕ). IsSomeAnd o (λ s. is_some (conn_for s k.conns) ≡ true)) (sym live)
      (some_also (live_session n.order app) (λ s. is_some (conn_for s n.conns) ≡ true) (λ s. is_some (conn_for s k.conns) ≡ true) (λ s is j. ap is_some (conns s is) ∙ j) h.joined);
}
link_same v w n k app (Trouble broke) ends due live conns h = record {
  out_of_round = none_round n.round k.round due h.out_of_round;
  apart = subst (λ (o : Option ℕ). IsSomeAnd o (λ s. conn_for s k.conns ≡ None)) (sym live)
      (some_also (live_session n.order app) (λ s. conn_for s n.conns ≡ None) (λ s. conn_for s k.conns ≡ None) (λ s is j. conns s is ∙ j) h.apart);
  plain = ends broke refl ∙ h.plain;
}
link_same v w n k app (Recovering due) ends dues live conns h = record {
  in_round = in_round n.round k.round due dues h.in_round;
  has_live = ap is_some live ∙ h.has_live;
}

-- where no end is set
pub links_stay : (v w : Server) (n k : DataState) → k.links ≡ n.links → ((app : ℕ) (link : DataLink) → LinkIs v n app link → LinkIs w k app link)
    → ((app : ℕ) → app < APP_LIMIT → LinkIs v n app (link_of n app)) → (app : ℕ) → app < APP_LIMIT → LinkIs w k app (link_of k app)
links_stay v w n k same keeps h app low =
    subst (λ (ls : List DataLink). LinkIs w k app (get_or ls app Free)) (sym same) (keeps app (link_of n app) (h app low))

-- where one is
pub links_set : (v w : Server) (n k : DataState) (a : ℕ) (x : DataLink) → k.links ≡ set n.links a x → length n.links ≡ APP_LIMIT → (a < APP_LIMIT → LinkIs w k a x)
    → ((app : ℕ) → app ≢ a → (link : DataLink) → LinkIs v n app link → LinkIs w k app link)
    → ((app : ℕ) → app < APP_LIMIT → LinkIs v n app (link_of n app)) → (app : ℕ) → app < APP_LIMIT → LinkIs w k app (link_of k app)
links_set v w n k a x same places here others h app low = subst (λ (ls : List DataLink). LinkIs w k app (get_or ls app Free)) (sym same) (go (eqb app a) refl)
  where
    go : (b : Bool) → eqb app a ≡ b → LinkIs w k app (get_or (set n.links a x) app Free)
    go true is =
        subst (λ (q : ℕ). LinkIs w k q (get_or (set n.links a x) q Free)) (sym (eqb-true app a is))
        (subst (LinkIs w k a) (sym (get_or-set_same n.links a x Free (subst (λ (m : ℕ). a < m) (sym places) in_places))) (here in_places))
      where
        in_places : a < APP_LIMIT
        in_places = subst (λ (q : ℕ). q < APP_LIMIT) (eqb-true app a is) low
    go false is =
        subst (LinkIs w k app) (sym (get_or-set_other n.links a app x Free differs)) (others app differs (link_of n app) (h app low))
      where
        differs : app ≢ a
        differs = λ q. false≢true (sym is ∙ eq-eqb app a q)

-- what changes nothing of it
pub record SameCore (n k : DataState) : Type 0 where
  pub server : k.server ≡ n.server
  pub order : k.order ≡ n.order
  pub synced : k.synced ≡ n.synced
  pub links : k.links ≡ n.links
  pub conns : k.conns ≡ n.conns
  pub callers : k.callers ≡ n.callers
  pub round : k.round ≡ n.round

pub same_core : (n : DataState) → SameCore n n
same_core n = record { server = refl; order = refl; synced = refl; links = refl; conns = refl; callers = refl; round = refl }

pub core_then : (n k m : DataState) → SameCore n k → SameCore k m → SameCore n m
core_then n k m s t = record {
  server = t.server ∙ s.server;
  order = t.order ∙ s.order;
  synced = t.synced ∙ s.synced;
  links = t.links ∙ s.links;
  conns = t.conns ∙ s.conns;
  callers = t.callers ∙ s.callers;
  round = t.round ∙ s.round;
}

-- Where nothing of it changes the ends stay.
pub links_beside : (d : ℕ) (v w : Server) (n k : DataState) → SameView v w → SameCore n k → LinksGo d v n → LinksGo d w k
links_beside d v w n k s t h = record {
  server = t.server ∙ h.server;
  ordered = subst IsOrdered (sym t.order) h.ordered;
  started = subst (λ (es : List Entry). last_epoch es ≢ 0) (sym t.order) h.started;
  order = s.order ∙ h.order ∙ sym t.order;
  differ = subst Differ (sym t.conns) h.differ;
  places = ap (λ (ls : List DataLink). length ls) t.links ∙ h.places;
  links = links_stay v w n k t.links
      (λ app link is. link_same v w n k app link (λ broke at. ap (λ (f : ℕ → Option ℕ). f app) s.ends) (ap (option_map due_in) t.round)
      (ap (λ (es : List Entry). live_session es app) t.order) (λ q at. ap (conn_for q) t.conns) is) h.links;
  due = ap (option_map due_in) t.round ∙ h.due ∙ sym s.due;
  unbroken = subst (λ (o : Option Round). IfSome o (λ r. (app : ℕ) → w.end_at app ≡ None)) (sym t.round)
      (subst (λ (f : ℕ → Option ℕ). IfSome n.round (λ r. (app : ℕ) → f app ≡ None)) (sym s.ends) h.unbroken);
}
