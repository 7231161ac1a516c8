-- What comes of a frame with a numbered message, with which no connection begins, by how it is taken.
use Rattle.std.proofs.Common.{◌≡◌, inl, inr, ℕ, Bool, true, false, Option, Some, None, refl, sym, subst}
use Rattle.std.specs.Prelude.{Ok, Err, Result}
use Rattle.link_window.specs.declared.window.Taken.{Taken}
use Rattle.link_window.specs.declared.window.Taken.TheVariants.{Fresh, Repeat}
use Rattle.link_window.specs.declared.window.WindowError.{WindowError}
use Rattle.link_states.specs.declared.link_event.LinkEvent.TheVariants as event
use Rattle.plain_orders.specs.Sessions.{app_in}
use Rattle.ecp_messages.specs.declared.up.UpFrame.{UpFrame}
use Rattle.end_words.specs.Windows.{answers}
use Rattle.data_rules.specs.DataState.{DataState}
use Rattle.data_rules.specs.declared.data_in.DataIn.TheVariants as data_in
use Rattle.data_rules.specs.declared.rows.Kind.{Kind}
use Rattle.data_rules.specs.declared.rows.Kind.TheVariants.{Numbered}
use Rattle.data_rules.specs.declared.rows.Role.{Role}
use Rattle.data_rules.specs.declared.rows.Role.TheVariants.{Bound, Closing, New, Waiting}
use Rattle.data_rules.specs.Conns.{breaks_if, end_breaks, ends_conn, is_normal, link_of, loses_conn, role_of, with_event, without_conn}
use Rattle.data_rules.specs.Frames.{Ends, TakesBound, TakesClosing, TakesFirst, TakesFrame, TakesNumbered, acknowledged, kind_of, took}
use Rattle.data_rules.specs.Messages.{Takes}
use Rattle.data_rules.specs.Puts.{Sofar, becomes, begun, body_of, cuts, window_of}
use Rattle.cluster_invariant.proofs.PieceMay.{AcknowledgesMay, Coming, OnBound, TakesMay}
use Rattle.link_kept.proofs.WindowPieces.{SameWindows}

-- A connection that is ended here leaves the windows and the order.
pub ends_same : (conn now : ℕ) (b : Sofar) → SameWindows b (ends_conn conn now b)
ends_same conn now b = go (role_of b.state conn)
  where
    by : (app : ℕ) (normal : Bool) → SameWindows b
        (cuts conn (becomes (with_event app now event.Ended) (breaks_if normal app now (becomes (without_conn conn) b))))
    by app true = record { windows = refl; order = refl }
    by app false = record { windows = refl; order = refl }

    lost : (o : Option ℕ) → SameWindows b (cuts conn (end_breaks o now (becomes (without_conn conn) b)))
    lost None = record { windows = refl; order = refl }
    lost (Some app) = by app (is_normal (link_of b.state app))

    go : (r : Option Role) → SameWindows b (cuts conn (loses_conn r now (becomes (without_conn conn) b)))
    go None = record { windows = refl; order = refl }
    go (Some New) = record { windows = refl; order = refl }
    go (Some Waiting) = record { windows = refl; order = refl }
    go (Some (Bound s)) = lost (app_in b.state.order s)
    go (Some (Closing s)) = record { windows = refl; order = refl }

module _ (old : DataState) (now conn : ℕ) (f : UpFrame) (c : Sofar) (P : Sofar → Type 0) where
  abbrev t : Coming
  t = record { old = old; now = now; input = data_in.Frame conn f }

  -- It is taken on the connection of a session, acknowledges there, ends the connection, or passes.
  pub taken_by : kind_of f.message ≡ Numbered → (TakesFirst f.message (begun old) conn now c → Ends (begun old) conn now c)
      → (Ends (begun old) conn now c → P c) → P (begun old)
      → ((s : ℕ) → AcknowledgesMay t conn s f (begun old) → P (acknowledged s f.ack (begun old)))
      → ((s : ℕ) → TakesMay t conn s f (begun old) → Takes f.message s (took s f.ack (begun old)) c → P c)
      → TakesFrame (role_of old conn) (begun old) conn now f c → P c
  taken_by kind first ends stays acks fresh takes = go (role_of old conn) refl takes
    where
      numbered : (s : ℕ) → OnBound t conn s f (begun old) → (r : Result Taken WindowError) → answers body_of (window_of old s) f.seq f.ack ≡ r
          → TakesNumbered r (begun old) conn now s f c → P c
      numbered s on (Ok Fresh) says (inl is) = fresh s (record { first = refl; on = on; kind = kind; fresh = says }) is.made
      numbered s on (Ok Fresh) says (inr stray) = ends stray.ended
      numbered s on (Ok Repeat) says is = subst P (sym is) (acks s (record { first = refl; on = on; why = inl (kind, says) }))
      numbered s on (Err why) says is = ends is

      go : (r : Option Role) → role_of old conn ≡ r → TakesFrame r (begun old) conn now f c → P c
      go None role passes = subst P (sym passes.after) stays
      go (Some New) role is = ends (first is)
      go (Some Waiting) role is = ends is
      go (Some (Bound s)) role is =
          numbered s (record { came = refl; bound = role }) (answers body_of (window_of old s) f.seq f.ack) refl
          (subst (λ (k : Kind). TakesBound k (begun old) conn now s f c) kind is)
      go (Some (Closing s)) role is = subst P (sym (subst (λ (k : Kind). TakesClosing k (begun old) conn now c) kind is).after) stays
