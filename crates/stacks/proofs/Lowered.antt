-- One call's step, told of the lowest store. Assumes nothing.
use Rattle.std.proofs.Common.{◌≡◌, ℕ, List, ◌++◌, length, take, drop, Some, None, Option, sym, refl, ap, ◌∙◌}
use Rattle.std.proofs.lemmas.List.{take_at, drop_at}
use Rattle.stores.specs.declared.fault.Fault.{Fault}
use Rattle.stores.specs.Stores.{Store, refusal, outcome, state, filled, put}
use Rattle.stores.specs.Layers.{Layer, Stack, Sound, stacked, store, reach, down, after_write}
use Rattle.stacks.specs.declared.call.Answer.{Answer}
use Rattle.stacks.specs.declared.call.Answer.TheVariants.{Transfer, Number, State}
use Rattle.stacks.specs.Calls.{Ask, ask_count, ask_length, ask_layer, ask_state, ask_read, ask_write}
use Rattle.stacks.specs.Laid.{laid}
use Rattle.stacks.specs.Law.{Moves, landed}
use Rattle.stacks.specs.Steps.{Step, Octets}
use Rattle.stacks.proofs.Sectors.{Sector}
use Rattle.stacks.proofs.Descents.{down_sector, put_through, reach_append, down_append, stacked_append, accepted_length}

-- what a call hears of a store
abbrev pub Heard : Store → Ask → Ask → Answer → Type 0
Heard s ask_count q' a = (a ≡ Number s.count) × (q' ≡ ask_count)
Heard s ask_length q' a = (a ≡ Number s.size) × (q' ≡ ask_length)
Heard s ask_layer q' a = (a ≡ Number s.layer) × (q' ≡ ask_layer)
Heard s (ask_state n) q' a = (a ≡ State (state s n)) × (q' ≡ ask_state n)
Heard s (ask_read n xs) q' a = (a ≡ Transfer (outcome (refusal s n (length xs)))) × (q' ≡ ask_read n (filled (refusal s n (length xs)) xs (s.bytes n)))
Heard s (ask_write n xs) q' a = (a ≡ Transfer (outcome (refusal s n (length xs)))) × (q' ≡ ask_write n xs)

-- a call's step over the lowest store
pub record Low (us us' : List Layer) (u u' : Store) (q q' : Ask) (a : Answer) : Type 0 where
  pub layers : us' ≡ us
  pub heard : Heard (stacked us u) q q' a
  pub moves : Moves us (stacked us u) q u u'

module _ (us us' : List Layer) (b b' : Stack) (deep : length us' ≡ length us) where
  -- the layers that a stack on b has, and those of b itself
  apart : us' ++ b'.layers ≡ us ++ b.layers → (us' ≡ us) × (b'.layers ≡ b.layers)
  apart e = (
    sym (take_at us' b'.layers (length us) deep) ∙ ap (take (length us)) e ∙ take_at us b.layers (length us) refl,
    sym (drop_at us' b'.layers (length us) deep) ∙ ap (drop (length us)) e ∙ drop_at us b.layers (length us) refl,
  )

  whole : store (laid us b) ≡ stacked us (store b)
  whole = sym (stacked_append us b.layers b.lowest)

  same_layers : (w : Store) → laid us' b' ≡ record { layers = us ++ b.layers; lowest = w } → us' ≡ us
  same_layers w e = (apart (ap (λ (z : Stack). z.layers) e)).0

  lower : (w : Store) → laid us' b' ≡ record { layers = us ++ b.layers; lowest = w } → store b' ≡ stacked b.layers w
  lower w e = ap (λ z. stacked z b'.lowest) (apart (ap (λ (z : Stack). z.layers) e)).1 ∙ ap (stacked b.layers) (ap (λ (z : Stack). z.lowest) e)

  landing : (n : ℕ) (xs : List ℕ) → Sound b.lowest → Sector b.lowest.size xs
      → stacked b.layers (put b.lowest (reach (us ++ b.layers) n) (down (us ++ b.layers) n xs)) ≡ put (store b) (reach us n) (down us n xs)
  landing n xs sound sec =
      ap (λ z. stacked b.layers (put b.lowest z (down (us ++ b.layers) n xs))) (sym (reach_append us b.layers n))
      ∙ ap (λ z. stacked b.layers (put b.lowest (reach b.layers (reach us n)) z)) (sym (down_append us b.layers n xs))
      ∙ put_through b.lowest.size sound.long sound.even b.layers b.lowest (reach us n) (down us n xs) (down_sector b.lowest.size sound.long sound.even us n xs sec)

  pub lowered : (q q' : Ask) (a : Answer) → Sound b.lowest → Step (laid us b) (laid us' b') q q' a → Octets q → Low us us' (store b) (store b') q q' a
  lowered ask_count q' a sound st o = record {
    layers = same_layers b.lowest st.2;
    moves = lower b.lowest st.2;
    heard = (st.0 ∙ ap (λ (z : Store). Number z.count) whole, st.1);
  }
  lowered ask_length q' a sound st o = record {
    layers = same_layers b.lowest st.2;
    moves = lower b.lowest st.2;
    heard = (st.0 ∙ ap (λ (z : Store). Number z.size) whole, st.1);
  }
  lowered ask_layer q' a sound st o = record {
    layers = same_layers b.lowest st.2;
    moves = lower b.lowest st.2;
    heard = (st.0 ∙ ap (λ (z : Store). Number z.layer) whole, st.1);
  }
  lowered (ask_state n) q' a sound st o = record {
    layers = same_layers b.lowest st.2;
    moves = lower b.lowest st.2;
    heard = (st.0 ∙ ap (λ (z : Store). State (state z n)) whole, st.1);
  }
  lowered (ask_read n xs) q' a sound st o = record {
    layers = same_layers b.lowest st.2;
    moves = lower b.lowest st.2;
    heard = (
      st.0 ∙ ap (λ (z : Store). Transfer (outcome (refusal z n (length xs)))) whole,
      st.1 ∙ ap (λ (z : Store). ask_read n (filled (refusal z n (length xs)) xs (z.bytes n))) whole,
    );
  }
  lowered (ask_write n xs) q' a sound st o = go (refusal (stacked us (store b)) n (length xs)) refl
    where
      same : refusal (store (laid us b)) n (length xs) ≡ refusal (stacked us (store b)) n (length xs)
      same = ap (λ (z : Store). refusal z n (length xs)) whole

      heard : Heard (stacked us (store b)) (ask_write n xs) q' a
      heard = (st.0 ∙ ap (λ v. Transfer (outcome v)) same, st.1)

      go : (v : Option Fault) → refusal (stacked us (store b)) n (length xs) ≡ v → Low us us' (store b) (store b') (ask_write n xs) q' a
      go None e =
          let w = put b.lowest (reach (us ++ b.layers) n) (down (us ++ b.layers) n xs) in
          let is = st.2 ∙ ap (λ v. after_write v (laid us b) n xs) (same ∙ e) in
          record {
            layers = same_layers w is;
            heard = heard;
            moves = lower w is ∙ landing n xs sound (accepted_length (stacked us (store b)) n (length xs) e, o) ∙ ap (λ v. landed v us (store b) n xs) (sym e);
          }
      go (Some f) e =
          let is = st.2 ∙ ap (λ v. after_write v (laid us b) n xs) (same ∙ e) in
          record {
            layers = same_layers b.lowest is;
            heard = heard;
            moves = lower b.lowest is ∙ ap (λ v. landed v us (store b) n xs) (sym e);
          }
