-- What contracts see of a world, by the value of its parts.
use Rattle.std.proofs.Common.{◌≡◌, false, subst}
use Rattle.world.specs.Exports.{WorldRefinesJournal, WorldValue}

-- what follows from the tie to the journal is true of a world that isn't spent
pub by_view : (P : WorldValue → Type 0) {own now : WorldValue} → own ≡ now
    → (own.is_spent ≡ false → WorldRefinesJournal own) → (WorldRefinesJournal own → P own)
    → now.is_spent ≡ false → P now
by_view P is refines holds =
    subst (λ (w : WorldValue). w.is_spent ≡ false → P w) is (λ able. holds (refines able))
