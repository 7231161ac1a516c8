-- The connections that waiting Hellos came on stay as they were over a step of a data server, and so is that of one that comes.
use Rattle.std.proofs.Common.{◌≡◌, ◌==◌, ℕ, Bool, true, false, List, [], ◌∷◌, Option, Some, None, option_map, refl, sym, ◌∙◌, ap, subst, if◌then◌else◌}
use Rattle.std.specs.Prelude.{IsSomeAnd}
use Rattle.cluster_runs.specs.Connections.{data_leaves, is_link, leaves_conn, leaves_conns, left, link_in, link_of}
use Rattle.cluster_runs.specs.Machine.{DataConnection, Site}
use Rattle.cluster_runs.specs.Sent.{Connection}
use Rattle.cluster_invariant.specs.Dials.{LinkedTo}
use Rattle.cluster_invariant.specs.Ends.{HelloAlone}
use Rattle.data_ends_kept.proofs.NodeEndsMoves.{AloneStill}

-- one that stays alone
some_of : (o : Option Connection) (P Q : Connection → Type 0) → IsSomeAnd o P → IsSomeAnd o Q → (c : Connection) × ((o ≡ Some c) × P c × Q c)
some_of None P Q p q = absurd p
some_of (Some c) P Q p q = (c, (refl, p, q))

alone_then : (a b c : Connection) → AloneStill a b → AloneStill b c → AloneStill a c
alone_then a b c s t = (t.0 ∙ s.0, t.1)

-- a site at which its link and its connection are as they were
pub linked_stays : (x y : Site) (conn app : ℕ) (h : LinkedTo x conn app HelloAlone) → link_of y conn ≡ link_of x conn → y.past ≡ x.past
    → ((c : Connection) → (x.end_at app).connection_at h.dial ≡ Some c → c.first ≡ Some (record { order = x.past; conn = conn }) → HelloAlone c → IsSomeAnd ((y.end_at app).connection_at h.dial) (AloneStill c))
    → LinkedTo y conn app HelloAlone
linked_stays x y conn app h link past still = go (some_of ((x.end_at app).connection_at h.dial) (λ c. c.first ≡ Some (record { order = x.past; conn = conn })) HelloAlone h.first h.its)
  where
    go : (c : Connection) × (((x.end_at app).connection_at h.dial ≡ Some c) × (c.first ≡ Some (record { order = x.past; conn = conn })) × HelloAlone c) → LinkedTo y conn app HelloAlone
    go (c, (there, first, alone)) = by ((y.end_at app).connection_at h.dial) refl (still c there first alone)
      where
        by : (o : Option Connection) → (y.end_at app).connection_at h.dial ≡ o → IsSomeAnd o (AloneStill c) → LinkedTo y conn app HelloAlone
        by None at is = absurd is
        by (Some k) at is = record {
          dial = h.dial;
          link = link ∙ h.link;
          first = subst (λ (o : Option Connection). IsSomeAnd o (λ g. g.first ≡ Some (record { order = y.past; conn = conn }))) (sym at)
              (is.0 ∙ first ∙ ap (λ (n : ℕ). Some (record { order = n; conn = conn })) (sym past));
          its = subst (λ (o : Option Connection). IsSomeAnd o HelloAlone) (sym at) is.1;
        }

-- the data end leaves connections

data_left_alone : (b : Bool) (c : Connection) → HelloAlone c → AloneStill c (if b then data_leaves c else c)
data_left_alone true c h = (refl, record { hello = h.hello; one = h.one; taken = h.taken; silent = h.silent; its = h.its })
data_left_alone false c h = (refl, h)

left_link : (o : Option DataConnection) → link_in (option_map left o) ≡ link_in o
left_link None = refl
left_link (Some c) = refl

if_link : (b : Bool) (o : Option DataConnection) → link_in (if b then option_map left o else o) ≡ link_in o
if_link true o = left_link o
if_link false o = refl

pub linked_leaves_one : (gone conn app : ℕ) (x : Site) → LinkedTo x conn app HelloAlone → LinkedTo (leaves_conn gone x) conn app HelloAlone
linked_leaves_one gone conn app x h =
    linked_stays x (leaves_conn gone x) conn app h (if_link (conn == gone) (x.connection_at conn)) refl
    (λ c there first alone. subst (λ (o : Option Connection). IsSomeAnd (option_map (λ (k : Connection). if is_link app h.dial (link_of x gone) then data_leaves k else k) o) (AloneStill c)) (sym there)
    (data_left_alone (is_link app h.dial (link_of x gone)) c alone))

pub linked_leaves : (conns : List ℕ) (conn app : ℕ) (x : Site) → LinkedTo x conn app HelloAlone → LinkedTo (leaves_conns conns x) conn app HelloAlone
linked_leaves [] conn app x h = h
linked_leaves (gone ∷ conns) conn app x h = linked_leaves conns conn app (leaves_conn gone x) (linked_leaves_one gone conn app x h)
