use Rattle.std.proofs.Common.{refl, arith}
use Rattle.fit_examples.proofs.Keys.{x_may, y_may}
use Rattle.fit_examples.proofs.examples.trail_examples.Goals as goal

pub returns : goal.returns
returns c = (
  (record { fresh = refl; ordered = tt; low = omega arith }, (record { fresh = refl; ordered = tt; low = omega arith }, (record { opened = refl; place = refl; alone = refl; up = refl }, (record { opened = refl; no_less = omega arith; within = omega arith }, ((refl, record { place = refl; synced = omega arith; entered = refl; not_lost = refl; fresh = refl; none = refl }), (record { opened = refl; place = refl; alone = refl; up = refl }, (record { opened = refl; no_less = omega arith; within = omega arith }, ((refl, record { place = refl; synced = omega arith; entered = refl; not_lost = refl; fresh = refl; none = refl }), tt)))))))),
  (record { fresh = refl; ordered = tt; low = omega arith }, (record { fresh = refl; ordered = tt; low = omega arith }, (record { opened = refl; place = refl; alone = refl; up = refl }, (record { opened = refl; no_less = omega arith; within = omega arith }, ((refl, record { place = refl; synced = omega arith; entered = refl; not_lost = refl; fresh = refl; none = refl }), (record { opened = refl; place = refl; alone = refl; up = refl }, (record { opened = refl; no_less = omega arith; within = omega arith }, ((refl, record { place = refl; synced = omega arith; entered = refl; not_lost = refl; fresh = refl; none = refl }), (record { is_live = refl; up = refl; here = refl; free = refl; node = x_may }, tt))))))))),
  (record { fresh = refl; ordered = tt; low = omega arith }, (record { fresh = refl; ordered = tt; low = omega arith }, (record { opened = refl; place = refl; alone = refl; up = refl }, (record { opened = refl; no_less = omega arith; within = omega arith }, ((refl, record { place = refl; synced = omega arith; entered = refl; not_lost = refl; fresh = refl; none = refl }), (record { opened = refl; place = refl; alone = refl; up = refl }, (record { opened = refl; no_less = omega arith; within = omega arith }, ((refl, record { place = refl; synced = omega arith; entered = refl; not_lost = refl; fresh = refl; none = refl }), (record { is_live = refl; up = refl; here = refl; free = refl; node = y_may }, tt))))))))),
  (record { fresh = refl; ordered = tt; low = omega arith }, (record { fresh = refl; ordered = tt; low = omega arith }, (record { opened = refl; place = refl; alone = refl; up = refl }, (record { opened = refl; no_less = omega arith; within = omega arith }, ((refl, record { place = refl; synced = omega arith; entered = refl; not_lost = refl; fresh = refl; none = refl }), (record { opened = refl; place = refl; alone = refl; up = refl }, (record { opened = refl; no_less = omega arith; within = omega arith }, ((refl, record { place = refl; synced = omega arith; entered = refl; not_lost = refl; fresh = refl; none = refl }), (record { is_live = refl; up = refl; here = refl; free = refl; node = y_may }, (record { is_live = refl; up = refl; here = refl; free = refl; node = x_may }, tt)))))))))),
  (record { fresh = refl; ordered = tt; low = omega arith }, (record { fresh = refl; ordered = tt; low = omega arith }, (record { opened = refl; place = refl; alone = refl; up = refl }, (record { opened = refl; no_less = omega arith; within = omega arith }, ((refl, record { place = refl; synced = omega arith; entered = refl; not_lost = refl; fresh = refl; none = refl }), (record { opened = refl; place = refl; alone = refl; up = refl }, (record { opened = refl; no_less = omega arith; within = omega arith }, ((refl, record { place = refl; synced = omega arith; entered = refl; not_lost = refl; fresh = refl; none = refl }), (record { is_live = refl; up = refl; here = refl; free = refl; node = x_may }, tt))))))))),
  (record { fresh = refl; ordered = tt; low = omega arith }, (record { fresh = refl; ordered = tt; low = omega arith }, (record { opened = refl; place = refl; alone = refl; up = refl }, (record { opened = refl; no_less = omega arith; within = omega arith }, ((refl, record { place = refl; synced = omega arith; entered = refl; not_lost = refl; fresh = refl; none = refl }), (record { opened = refl; place = refl; alone = refl; up = refl }, (record { opened = refl; no_less = omega arith; within = omega arith }, ((refl, record { place = refl; synced = omega arith; entered = refl; not_lost = refl; fresh = refl; none = refl }), (record { is_live = refl; up = refl; here = refl; free = refl; node = x_may }, ((record { known = omega arith; alive = refl; free = refl }, record { session = refl; sent = refl; synced = omega arith }), tt)))))))))),
  (record { fresh = refl; ordered = tt; low = omega arith }, (record { fresh = refl; ordered = tt; low = omega arith }, (record { opened = refl; place = refl; alone = refl; up = refl }, (record { opened = refl; no_less = omega arith; within = omega arith }, ((refl, record { place = refl; synced = omega arith; entered = refl; not_lost = refl; fresh = refl; none = refl }), (record { opened = refl; place = refl; alone = refl; up = refl }, (record { opened = refl; no_less = omega arith; within = omega arith }, ((refl, record { place = refl; synced = omega arith; entered = refl; not_lost = refl; fresh = refl; none = refl }), (record { is_live = refl; up = refl; here = refl; free = refl; node = x_may }, ((record { known = omega arith; alive = refl; free = refl }, record { session = refl; sent = refl; synced = omega arith }), ((record { known = omega arith; alive = refl }, record { near = refl; ended = λ e. absurd (cc e) }), tt))))))))))),
  (record { fresh = refl; ordered = tt; low = omega arith }, (record { fresh = refl; ordered = tt; low = omega arith }, (record { opened = refl; place = refl; alone = refl; up = refl }, (record { opened = refl; no_less = omega arith; within = omega arith }, ((refl, record { place = refl; synced = omega arith; entered = refl; not_lost = refl; fresh = refl; none = refl }), (record { opened = refl; place = refl; alone = refl; up = refl }, (record { opened = refl; no_less = omega arith; within = omega arith }, ((refl, record { place = refl; synced = omega arith; entered = refl; not_lost = refl; fresh = refl; none = refl }), ((record { known = omega arith; alive = refl }, record { near = refl; ended = λ e. absurd (cc e) }), tt))))))))),
  (record { fresh = refl; ordered = tt; low = omega arith }, (record { fresh = refl; ordered = tt; low = omega arith }, (record { opened = refl; place = refl; alone = refl; up = refl }, (record { opened = refl; no_less = omega arith; within = omega arith }, ((refl, record { place = refl; synced = omega arith; entered = refl; not_lost = refl; fresh = refl; none = refl }), (record { opened = refl; place = refl; alone = refl; up = refl }, (record { opened = refl; no_less = omega arith; within = omega arith }, ((refl, record { place = refl; synced = omega arith; entered = refl; not_lost = refl; fresh = refl; none = refl }), ((record { known = omega arith; alive = refl }, record { near = refl; ended = λ e. absurd (cc e) }), ((record { known = omega arith; alive = refl }, record { near = refl; ended = λ e. absurd (cc e) }), tt)))))))))),
  (record { fresh = refl; ordered = tt; low = omega arith }, (record { fresh = refl; ordered = tt; low = omega arith }, (record { opened = refl; place = refl; alone = refl; up = refl }, (record { opened = refl; no_less = omega arith; within = omega arith }, ((refl, record { place = refl; synced = omega arith; entered = refl; not_lost = refl; fresh = refl; none = refl }), (record { opened = refl; place = refl; alone = refl; up = refl }, (record { opened = refl; no_less = omega arith; within = omega arith }, ((refl, record { place = refl; synced = omega arith; entered = refl; not_lost = refl; fresh = refl; none = refl }), (record { is_live = refl; up = refl; here = refl; free = refl; node = x_may }, ((record { known = omega arith; alive = refl; free = refl }, record { session = refl; sent = refl; synced = omega arith }), ((record { known = omega arith; alive = refl }, record { near = refl; ended = λ e. absurd (cc e) }), ((record { known = omega arith; alive = refl; free = refl }, record { session = refl; answered = refl }), tt)))))))))))),
  (record { fresh = refl; ordered = tt; low = omega arith }, (record { fresh = refl; ordered = tt; low = omega arith }, (record { opened = refl; place = refl; alone = refl; up = refl }, (record { opened = refl; no_less = omega arith; within = omega arith }, ((refl, record { place = refl; synced = omega arith; entered = refl; not_lost = refl; fresh = refl; none = refl }), (record { opened = refl; place = refl; alone = refl; up = refl }, (record { opened = refl; no_less = omega arith; within = omega arith }, ((refl, record { place = refl; synced = omega arith; entered = refl; not_lost = refl; fresh = refl; none = refl }), (record { is_live = refl; up = refl; here = refl; free = refl; node = x_may }, ((record { known = omega arith; alive = refl; free = refl }, record { session = refl; sent = refl; synced = omega arith }), ((record { known = omega arith; alive = refl }, record { near = refl; ended = λ e. absurd (cc e) }), (record { is_live = refl }, (record { opened = refl; no_less = omega arith; within = omega arith }, ((refl, record { there = refl; synced = omega arith; closed = refl }), tt)))))))))))))),
  (record { fresh = refl; ordered = tt; low = omega arith }, (record { fresh = refl; ordered = tt; low = omega arith }, (record { opened = refl; place = refl; alone = refl; up = refl }, (record { opened = refl; no_less = omega arith; within = omega arith }, ((refl, record { place = refl; synced = omega arith; entered = refl; not_lost = refl; fresh = refl; none = refl }), (record { opened = refl; place = refl; alone = refl; up = refl }, (record { opened = refl; no_less = omega arith; within = omega arith }, ((refl, record { place = refl; synced = omega arith; entered = refl; not_lost = refl; fresh = refl; none = refl }), (record { is_live = refl; up = refl; here = refl; free = refl; node = x_may }, ((record { known = omega arith; alive = refl; free = refl }, record { session = refl; sent = refl; synced = omega arith }), ((record { known = omega arith; alive = refl }, record { near = refl; ended = λ e. absurd (cc e) }), (record { is_live = refl }, (record { opened = refl; no_less = omega arith; within = omega arith }, ((refl, record { there = refl; synced = omega arith; closed = refl }), (record { opened = refl; place = refl; alone = refl; up = refl }, (record { opened = refl; no_less = omega arith; within = omega arith }, ((refl, record { place = refl; synced = omega arith; entered = refl; not_lost = refl; fresh = refl; none = refl }), ((record { known = omega arith; alive = refl }, record { news = refl; bar = refl; its_state = refl }), (record { closed = refl }, (record { is_live = refl; up = refl; here = refl; free = refl; node = x_may }, ((record { known = omega arith; alive = refl; free = refl }, record { session = refl; sent = refl; synced = omega arith }), tt))))))))))))))))))))),
  (record { fresh = refl; ordered = tt; low = omega arith }, (record { fresh = refl; ordered = tt; low = omega arith }, (record { opened = refl; place = refl; alone = refl; up = refl }, (record { opened = refl; no_less = omega arith; within = omega arith }, ((refl, record { place = refl; synced = omega arith; entered = refl; not_lost = refl; fresh = refl; none = refl }), (record { opened = refl; place = refl; alone = refl; up = refl }, (record { opened = refl; no_less = omega arith; within = omega arith }, ((refl, record { place = refl; synced = omega arith; entered = refl; not_lost = refl; fresh = refl; none = refl }), (record { is_live = refl; up = refl; here = refl; free = refl; node = x_may }, ((record { known = omega arith; alive = refl; free = refl }, record { session = refl; sent = refl; synced = omega arith }), (record { alive = refl; now = refl; there = refl; fresh = refl }, tt))))))))))),
  (record { fresh = refl; ordered = tt; low = omega arith }, (record { fresh = refl; ordered = tt; low = omega arith }, (record { opened = refl; place = refl; alone = refl; up = refl }, (record { opened = refl; no_less = omega arith; within = omega arith }, ((refl, record { place = refl; synced = omega arith; entered = refl; not_lost = refl; fresh = refl; none = refl }), (record { opened = refl; place = refl; alone = refl; up = refl }, (record { opened = refl; no_less = omega arith; within = omega arith }, ((refl, record { place = refl; synced = omega arith; entered = refl; not_lost = refl; fresh = refl; none = refl }), (record { is_live = refl; up = refl; here = refl; free = refl; node = x_may }, ((record { known = omega arith; alive = refl; free = refl }, record { session = refl; sent = refl; synced = omega arith }), (record { is_live = refl }, (record { opened = refl; no_less = omega arith; within = omega arith }, ((refl, record { there = refl; synced = omega arith; closed = refl }), (record { opened = refl; place = refl; alone = refl; up = refl }, (record { opened = refl; no_less = omega arith; within = omega arith }, ((refl, record { place = refl; synced = omega arith; entered = refl; not_lost = refl; fresh = refl; none = refl }), tt)))))))))))))))),
  (record { fresh = refl; ordered = tt; low = omega arith }, (record { fresh = refl; ordered = tt; low = omega arith }, (record { opened = refl; place = refl; alone = refl; up = refl }, (record { opened = refl; no_less = omega arith; within = omega arith }, ((refl, record { place = refl; synced = omega arith; entered = refl; not_lost = refl; fresh = refl; none = refl }), (record { opened = refl; place = refl; alone = refl; up = refl }, (record { opened = refl; no_less = omega arith; within = omega arith }, ((refl, record { place = refl; synced = omega arith; entered = refl; not_lost = refl; fresh = refl; none = refl }), ((record { known = omega arith; alive = refl }, record { near = refl; ended = λ e. absurd (cc e) }), ((record { known = omega arith; alive = refl; free = refl }, record { there = refl; unbroken = refl; next = refl; its = record { key_may = x_may; within = omega arith } }), tt)))))))))),
  (record { fresh = refl; ordered = tt; low = omega arith }, (record { fresh = refl; ordered = tt; low = omega arith }, (record { opened = refl; place = refl; alone = refl; up = refl }, (record { opened = refl; no_less = omega arith; within = omega arith }, ((refl, record { place = refl; synced = omega arith; entered = refl; not_lost = refl; fresh = refl; none = refl }), (record { opened = refl; place = refl; alone = refl; up = refl }, (record { opened = refl; no_less = omega arith; within = omega arith }, ((refl, record { place = refl; synced = omega arith; entered = refl; not_lost = refl; fresh = refl; none = refl }), ((record { known = omega arith; alive = refl }, record { near = refl; ended = λ e. absurd (cc e) }), ((record { known = omega arith; alive = refl; free = refl }, record { there = refl; unbroken = refl; next = refl; its = record { key_may = x_may; within = omega arith } }), ((record { known = omega arith; alive = refl; free = refl }, record { there = refl; unbroken = refl; next = refl; its = record { key_may = x_may; within = omega arith } }), tt))))))))))),
  (record { fresh = refl; ordered = tt; low = omega arith }, (record { fresh = refl; ordered = tt; low = omega arith }, (record { opened = refl; place = refl; alone = refl; up = refl }, (record { opened = refl; no_less = omega arith; within = omega arith }, ((refl, record { place = refl; synced = omega arith; entered = refl; not_lost = refl; fresh = refl; none = refl }), (record { opened = refl; place = refl; alone = refl; up = refl }, (record { opened = refl; no_less = omega arith; within = omega arith }, ((refl, record { place = refl; synced = omega arith; entered = refl; not_lost = refl; fresh = refl; none = refl }), ((record { known = omega arith; alive = refl }, record { near = refl; ended = λ e. absurd (cc e) }), ((record { known = omega arith; alive = refl; free = refl }, record { there = refl; unbroken = refl; next = refl; its = record { key_may = x_may; within = omega arith } }), ((record { known = omega arith; alive = refl; free = refl }, record { there = refl; unbroken = refl; next = refl; its = record { key_may = x_may; within = omega arith } }), (record { is_live = refl }, (record { opened = refl; no_less = omega arith; within = omega arith }, ((refl, record { there = refl; synced = omega arith; closed = refl }), tt)))))))))))))),
  (record { fresh = refl; ordered = tt; low = omega arith }, (record { fresh = refl; ordered = tt; low = omega arith }, (record { opened = refl; place = refl; alone = refl; up = refl }, (record { opened = refl; no_less = omega arith; within = omega arith }, ((refl, record { place = refl; synced = omega arith; entered = refl; not_lost = refl; fresh = refl; none = refl }), (record { opened = refl; place = refl; alone = refl; up = refl }, (record { opened = refl; no_less = omega arith; within = omega arith }, ((refl, record { place = refl; synced = omega arith; entered = refl; not_lost = refl; fresh = refl; none = refl }), ((record { known = omega arith; alive = refl }, record { near = refl; ended = λ e. absurd (cc e) }), ((record { known = omega arith; alive = refl; free = refl }, record { there = refl; unbroken = refl; next = refl; its = record { key_may = x_may; within = omega arith } }), ((record { known = omega arith; alive = refl; free = refl }, record { there = refl; unbroken = refl; next = refl; its = record { key_may = x_may; within = omega arith } }), (record { is_live = refl }, (record { opened = refl; no_less = omega arith; within = omega arith }, ((refl, record { there = refl; synced = omega arith; closed = refl }), ((record { known = omega arith; alive = refl }, record { news = refl; bar = refl; its_state = refl }), tt))))))))))))))),
  (record { fresh = refl; ordered = tt; low = omega arith }, (record { fresh = refl; ordered = tt; low = omega arith }, (record { opened = refl; place = refl; alone = refl; up = refl }, (record { opened = refl; no_less = omega arith; within = omega arith }, ((refl, record { place = refl; synced = omega arith; entered = refl; not_lost = refl; fresh = refl; none = refl }), (record { opened = refl; place = refl; alone = refl; up = refl }, (record { opened = refl; no_less = omega arith; within = omega arith }, ((refl, record { place = refl; synced = omega arith; entered = refl; not_lost = refl; fresh = refl; none = refl }), (record { is_live = refl }, (record { opened = refl; no_less = omega arith; within = omega arith }, ((refl, record { there = refl; synced = omega arith; closed = refl }), tt))))))))))),
)
