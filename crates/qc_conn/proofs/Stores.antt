-- The store of tokens over a run.
use Rattle.std.proofs.Common.{◌≡◌, ℕ, List, [], ◌∷◌, ◌++◌, refl, ap, sym, subst, ◌∙◌, append_assoc, append-nil}
use Rattle.qc_conn.specs.declared.driving.DriveKind.{DriveKind}
use Rattle.qc_conn.specs.declared.driving.DriveKind.TheVariants.{OutOfMemory}
use Rattle.qc_conn.specs.Stored.{StoresMore, StoresPart, StoresStep, stored, tokens_in, tokens_told}
use Rattle.qc_state.specs.declared.deeds.Did.{Did}
use Rattle.qc_state.specs.declared.trace.Step.{Step}
use Rattle.qc_state.specs.Headline.{deeds_of}

-- the tokens of deeds behind others
told_append : (xs ys : List Did) → tokens_in (xs ++ ys) ≡ tokens_in xs ++ tokens_in ys
told_append [] ys = refl
told_append (x ∷ xs) ys = ap (λ ts. tokens_told x ++ ts) (told_append xs ys) ∙ sym (append_assoc (tokens_told x) (tokens_in xs) (tokens_in ys))

-- the deeds of one step more
deeds_next : (trace : List Step) (step : Step) → deeds_of (trace ++ step ∷ []) ≡ deeds_of trace ++ step.did
deeds_next [] step = append-nil step.did
deeds_next (x ∷ xs) step = ap (λ ds. x.did ++ ds) (deeds_next xs step) ∙ sym (append_assoc x.did (deeds_of xs) step.did)

module _ {G : Type 0} where
  -- tokens behind others
  pub stored_more : (inserted : G → List ℕ → List ℕ → G) (name : List ℕ) (xs ys : List (List ℕ)) (store : G) → stored inserted name (xs ++ ys) store ≡ stored inserted name ys (stored inserted name xs store)
  stored_more inserted name [] ys store = refl
  stored_more inserted name (x ∷ xs) ys store = stored_more inserted name xs ys (inserted store name x)

  -- no tokens
  pub none_more : (inserted : G → List ℕ → List ℕ → G) (name : List ℕ) (store store' : G) → store' ≡ store → StoresMore inserted name store store'
  none_more inserted name store store' e = record { tokens = []; is = e }

  -- under a name that is the same
  pub named_more : (inserted : G → List ℕ → List ℕ → G) (name name' : List ℕ) (store store' : G) → name' ≡ name → StoresMore inserted name' store store' → StoresMore inserted name store store'
  named_more inserted name name' store store' same h = subst (λ (n : List ℕ). StoresMore inserted n store store') same h

  pub named_step : (inserted : G → List ℕ → List ℕ → G) (name name' : List ℕ) (trace trace' : List Step) (store store' : G) → name' ≡ name → StoresStep inserted name' trace trace' store store' → StoresStep inserted name trace trace' store store'
  named_step inserted name name' trace trace' store store' same h = subst (λ (n : List ℕ). StoresStep inserted n trace trace' store store') same h

  -- the tokens of a step that was put behind others
  pub step_stored : (inserted : G → List ℕ → List ℕ → G) (name name' : List ℕ) (step : Step) (trace trace' : List Step) (store store' : G) → trace' ≡ trace ++ step ∷ [] → name' ≡ name → store' ≡ stored inserted name' (tokens_in step.did) store →
      StoresStep inserted name trace trace' store store'
  step_stored inserted name name' step trace trace' store store' next same is =
      record { step = step; next = next; is = is ∙ ap (λ n. stored inserted n (tokens_in step.did) store) same }

  -- and one time more
  pub more_next : (inserted : G → List ℕ → List ℕ → G) (name : List ℕ) (tokens : List (List ℕ)) (a b c : G) → StoresMore inserted name a b → c ≡ stored inserted name tokens b → StoresMore inserted name a c
  more_next inserted name tokens a b c h e =
      record { tokens = h.tokens ++ tokens; is = e ∙ ap (stored inserted name tokens) h.is ∙ sym (stored_more inserted name h.tokens tokens a) }

  -- those of one deed more, of deeds that are left
  pub told_one : (inserted : G → List ℕ → List ℕ → G) (name : List ℕ) (ds : List Did) (d : Did) (more : List Did) (a b : G) → ds ≡ d ∷ more → b ≡ stored inserted name (tokens_told d) a →
      stored inserted name (tokens_in more) b ≡ stored inserted name (tokens_in ds) a
  told_one inserted name ds d more a b is e =
      ap (stored inserted name (tokens_in more)) e ∙ sym (stored_more inserted name (tokens_told d) (tokens_in more) a) ∙ ap (λ xs. stored inserted name (tokens_in xs) a) (sym is)

  -- no steps so far
  pub none_yet : (inserted : G → List ℕ → List ℕ → G) (name : List ℕ) (trace : List Step) (a : G) → trace ≡ [] → a ≡ stored inserted name (tokens_in (deeds_of trace)) a
  none_yet inserted name trace a empty = ap (λ xs. stored inserted name (tokens_in (deeds_of xs)) a) (sym empty)

  -- the store of one step more
  pub run_stored : (inserted : G → List ℕ → List ℕ → G) (name : List ℕ) (trace trace' : List Step) (a b c : G) → b ≡ stored inserted name (tokens_in (deeds_of trace)) a → StoresStep inserted name trace trace' b c →
      c ≡ stored inserted name (tokens_in (deeds_of trace')) a
  run_stored inserted name trace trace' a b c h s =
      let told : tokens_in (deeds_of trace') ≡ tokens_in (deeds_of trace) ++ tokens_in s.step.did =
      ap (λ xs. tokens_in (deeds_of xs)) s.next ∙ ap tokens_in (deeds_next trace s.step) ∙ told_append (deeds_of trace) s.step.did in
      s.is ∙ ap (stored inserted name (tokens_in s.step.did)) h ∙ sym (stored_more inserted name (tokens_in (deeds_of trace)) (tokens_in s.step.did) a) ∙ ap (λ xs. stored inserted name xs a) (sym told)

  -- the steps before an input that was refused
  pub refused_stored : (inserted : G → List ℕ → List ℕ → G) (name : List ℕ) (kind : DriveKind) (trace : List Step) (a b : G) → b ≡ stored inserted name (tokens_in (deeds_of trace)) a → StoresPart inserted name kind trace a b
  refused_stored inserted name kind trace a b h =
      record { tokens = []; none = λ other. refl; is = h ∙ ap (λ xs. stored inserted name xs a) (sym (append-nil (tokens_in (deeds_of trace)))) }

  -- no steps
  pub none_stored : (inserted : G → List ℕ → List ℕ → G) (name : List ℕ) (kind : DriveKind) (trace : List Step) (a : G) → trace ≡ [] → StoresPart inserted name kind trace a a
  none_stored inserted name kind trace a empty = refused_stored inserted name kind trace a a (none_yet inserted name trace a empty)

  -- those before one that met want of memory
  pub part_stored : (inserted : G → List ℕ → List ℕ → G) (name : List ℕ) (trace trace' : List Step) (a b c : G) → trace' ≡ trace → b ≡ stored inserted name (tokens_in (deeds_of trace)) a → StoresMore inserted name b c →
      StoresPart inserted name OutOfMemory trace' a c
  part_stored inserted name trace trace' a b c same h more = record {
    tokens = more.tokens;
    none = λ other. absurd (other refl);
    is = more.is ∙ ap (stored inserted name more.tokens) h ∙ sym (stored_more inserted name (tokens_in (deeds_of trace)) more.tokens a)
        ∙ ap (λ xs. stored inserted name (tokens_in (deeds_of xs) ++ more.tokens) a) (sym same);
  }
