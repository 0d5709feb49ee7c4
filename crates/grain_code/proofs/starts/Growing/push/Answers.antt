use Rattle.std.proofs.Common.{◌<◌, ◌+◌, ◌/◌, ℕ, List, refl, sym, subst, arith}
use Rattle.grain_code.specs.Starts.{Filling, Growth}
use Rattle.grain_code.proofs.FilledWords.{grown_start}
use Rattle.grain_code.proofs.starts.Growing.push.Goals as goal

pub invariant_of-self : goal.invariant_of-self
invariant_of-self c =
    let s = c.self.inside in
    let grown = c.self.invariant in
    let ahead : s.end < c.args.next = subst (λ (g : Growth). g.end < c.args.next) (sym c.self.view_is) c.requires.further in
    let closed = c.close-self-inside.ensures in
    let filling = closed.filling _ (grown_start s.words.items s.word.before s.word.bits s.count s.end c.args.next _ ahead grown) in
    record {
      filling = subst (λ (starts : List ℕ). Filling c.close-self-inside.new.words.items c.close-self-inside.result.before c.close-self-inside.result.bits (s.count + 1) c.args.next starts) (sym filling.below) filling;
      opened = closed.opened;
      room = rw closed.room (subst (λ (g : Growth). c.args.next / 64 < g.room) (sym c.self.view_is) c.requires.room);
      few = let few = grown.few in omega (arith, ahead, few);
    }

pub returns : goal.returns
returns c =
    let s = c.self.inside in
    let ahead : s.end < c.args.next = subst (λ (g : Growth). g.end < c.args.next) (sym c.self.view_is) c.requires.further in
    let closed = c.close-self-inside.ensures in
    let filling = closed.filling _ (grown_start s.words.items s.word.before s.word.bits s.count s.end c.args.next _ ahead c.self.invariant) in
    rw (← c.self.view_is, closed.room, filling.below) refl
