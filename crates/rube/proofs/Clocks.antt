-- More clock changes nothing. Assumes nothing.
use Rattle.std.proofs.Common.{◌≡◌, ℕ, zero, suc, ◌+◌, Bool, true, false, cond, not, eqb, List, [], length, Some, None, codes, Option, subst, add_comm, arith}
use Rattle.std.specs.Str.{bytes_eq}
use Rattle.store.specs.Val.{Val}
use Rattle.grammar.specs.Tree.{Expr, Args}
use Rattle.machine.specs.declared.ending.Ending.{Ending}
use Rattle.machine.specs.Builtin.{string_in}
use Rattle.rube.specs.Methods.{argument}
use Rattle.rube.specs.Classes.{Callee, parameter_count, lookup, known}
use Rattle.rube.specs.Heap.{Setting, top_self, is_nil}
use Rattle.rube.specs.Evaluation.{State, Res, val, end, out, ◌>>=◌, outcome, unless}
use Rattle.rube.specs.Meaning.{Eval, enter, framed, called, call, initialized, eval, evals, no_clock, eval_at, free_frames, printed, close, meaning, Ended, ended}
use Rattle.rube.specs.Clock.{ClockLaw}

-- the second answers wherever the first does, and the same
pub data Refines {X : Type 0} : Res X → Res X → Type 0 where
  same : {r : Res X} → Refines r r
  unknown : {r : Res X} → Refines out r

bind_refines : {X Y : Type 0} {r q : Res X} {f g : X → State → Res Y} → Refines r q → ((x : X) (s : State) → Refines (f x s) (g x s)) → Refines (r >>= f) (q >>= g)
bind_refines {r = val x s} same h = h x s
bind_refines {r = end e s} same h = same
bind_refines {r = out} same h = same
bind_refines unknown h = unknown

unless-refines : {X : Type 0} (e : Ending) (b : Bool) (s : State) {r q : Res X} → Refines r q → Refines (unless e b s r) (unless e b s q)
unless-refines e true s h = h
unless-refines e false s h = same

cond-refines : {X : Type 0} (b : Bool) {r q r' q' : Res X} → Refines r q → Refines r' q' → Refines (cond b r r') (cond b q q')
cond-refines true h h' = h
cond-refines false h h' = h'

module _ {A : Type 0} (P : Setting A) (a b : Eval A) (better : (self : Val) (d : ℕ) (e : Expr A) (s : State) → Refines (a self d e s) (b self d e s)) where
  enter-refines : (d : ℕ) (f : Callee A) (r : Val) (vs : List Val) (s : State) → Refines (enter P a d f r vs s) (enter P b d f r vs s)
  enter-refines d (Callee.built_in n o) r vs s = same
  enter-refines d (Callee.written i m) r vs s = bind_refines (better r d m.body _) (λ v s'. same)

  framed-refines : (d : ℕ) (f : Callee A) (r : Val) (vs : List Val) (s : State) → Refines (framed P a d f r vs s) (framed P b d f r vs s)
  framed-refines zero f r vs s = same
  framed-refines (suc d) f r vs s = unless-refines _ (eqb (length vs) (parameter_count f)) s (enter-refines d f r vs s)

  called-refines : (d : ℕ) (o : Option (Callee A)) (r : Val) (vs : List Val) (s : State) → Refines (called P a d o r vs s) (called P b d o r vs s)
  called-refines d None r vs s = same
  called-refines d (Some f) r vs s = framed-refines d f r vs s

  pub call-refines : (d : ℕ) (r : Val) (x : List ℕ) (vs : List Val) (s : State) → Refines (call P a d r x vs s) (call P b d r x vs s)
  call-refines d r x vs s = called-refines d (lookup P.classes _ x) r vs s

  initialized-refines : (d : ℕ) (o : Option (Callee A)) (C : List ℕ) (vs : List Val) (s : State) → Refines (initialized P a d o C vs s) (initialized P b d o C vs s)
  initialized-refines d None C vs s = same
  initialized-refines d (Some f) C vs s =
      unless-refines _ (eqb (length vs) (parameter_count f)) s (bind_refines same (λ r s'. bind_refines (framed-refines d f r vs s') (λ _ s''. same)))

  mutual
    unfolding eval evals

    pub eval-refines : (e : Expr A) (self : Val) (d : ℕ) (s : State) → Refines (eval P a self d e s) (eval P b self d e s)
    eval-refines (Expr.int n w) self d s = same
    eval-refines (Expr.nil n) self d s = same
    eval-refines (Expr.self n) self d s = same
    eval-refines (Expr.string n w) self d s = same
    eval-refines (Expr.local n x) self d s = same
    eval-refines (Expr.set_local n x e) self d s = bind_refines (eval-refines e self d _) (λ v s'. same)
    eval-refines (Expr.field n x) self d s = same
    eval-refines (Expr.set_field n x e) self d s = bind_refines (eval-refines e self d _) (λ v s'. same)
    eval-refines (Expr.if_then_else n c t e) self d s =
        bind_refines (eval-refines c self d _) (λ v s'. cond-refines (is_nil v) (eval-refines e self d s') (eval-refines t self d s'))
    eval-refines (Expr.while_do n c e) self d s =
        bind_refines (eval-refines c self d _)
        (λ v s'. cond-refines (is_nil v) same (bind_refines (eval-refines e self d s') (λ _ s''. better self d (Expr.while_do n c e) s'')))
    eval-refines (Expr.seq n c e) self d s = bind_refines (eval-refines c self d _) (λ _ s'. eval-refines e self d s')
    eval-refines (Expr.new n C xs) self d s =
        unless-refines _ (known P.classes C) _
        (unless-refines _ (not (bytes_eq C (codes "Bot"))) _
        (bind_refines (evals-refines xs self d _) (λ vs s'. initialized-refines d (lookup P.classes C (codes "initialize")) C vs s')))
    eval-refines (Expr.instance_of n e C) self d s = bind_refines (eval-refines e self d _) (λ v s'. same)
    eval-refines (Expr.invoke n e x xs) self d s =
        bind_refines (eval-refines e self d _) (λ r s'. bind_refines (evals-refines xs self d s') (λ vs s''. call-refines d r x vs s''))

    evals-refines : (xs : Args A) (self : Val) (d : ℕ) (s : State) → Refines (evals P a self d xs s) (evals P b self d xs s)
    evals-refines Args.none self d s = same
    evals-refines (Args.more xs e) self d s =
        bind_refines (evals-refines xs self d s) (λ vs s'. bind_refines (eval-refines e self d s') (λ v s''. same))

module _ {A : Type 0} (P : Setting A) where
  one_more : (k : ℕ) (self : Val) (d : ℕ) (e : Expr A) (s : State) → Refines (eval_at P k self d e s) (eval_at P (suc k) self d e s)
  unfolding eval_at
  one_more zero self d e s = eval-refines P no_clock (eval_at P zero) (λ _ _ _ _. unknown) e self d s
  one_more (suc k) self d e s = eval-refines P (eval_at P k) (eval_at P (suc k)) (one_more k) e self d s

  close_more : (k : ℕ) (v : Val) (s : State) → Refines (close P (eval_at P k) v s) (close P (eval_at P (suc k)) v s)
  close_more k v s =
      bind_refines {f = λ t s'. outcome (argument (string_in t)) s' >>= printed} {g = λ t s'. outcome (argument (string_in t)) s' >>= printed}
      (call-refines P (eval_at P k) (eval_at P (suc k)) (one_more k) free_frames v (codes "to_s") [] s) (λ t s'. same)

  meaning-more : (left : ℕ) (e : Expr A) (k : ℕ) → Refines (meaning P left e k) (meaning P left e (suc k))
  unfolding meaning
  meaning-more left e k = unless-refines _ _ _ (bind_refines (one_more k top_self free_frames e _) (close_more k))

  ended_same : {r q : Res (Unit {0})} (x : Ended) → Refines r q → ended r ≡ Some x → ended q ≡ Some x
  ended_same x same e = e
  ended_same x unknown e = let z : ◌≡◌ {A = ℕ} 0 1 = cc in absurd (omega arith)

  pub more-clock : (left : ℕ) (e : Expr A) (k j : ℕ) (r : Ended) → ended (meaning P left e k) ≡ Some r → ended (meaning P left e (k + j)) ≡ Some r
  more-clock left e k zero r h = subst (λ n. ended (meaning P left e n) ≡ Some r) (omega arith) h
  more-clock left e k (suc j) r h =
      let n : suc (k + j) ≡ k + suc j = omega arith in
      subst (λ m. ended (meaning P left e m) ≡ Some r) n (ended_same r (meaning-more left e (k + j)) (more-clock left e k j r h))

  pub one-ending : (left : ℕ) (e : Expr A) (r q : Ended) (k j : ℕ) → ended (meaning P left e k) ≡ Some r → ended (meaning P left e j) ≡ Some q → r ≡ q
  one-ending left e r q k j h g =
      let a = more-clock left e k j r h in
      let b = subst (λ m. ended (meaning P left e m) ≡ Some q) (add_comm j k) (more-clock left e j k q g) in
      cc

pub clock-law : ClockLaw
clock-law =
    record {
      more = λ P left e k j r h. more-clock P left e k j r h;
      one = λ P left e r q h g. one-ending P left e r q h.0 g.0 h.1 g.1;
    }
