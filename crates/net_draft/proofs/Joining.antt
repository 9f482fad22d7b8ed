-- Documents of modules, put behind others one by one.
use Rattle.std.proofs.Common.{List, [], ◌∷◌, ◌++◌, sym, subst, append_assoc, append-nil}
use Rattle.lib_core.specs.declared.library.Library.{Library}
use Rattle.net_core.specs.declared.modules.Module.{Module}
use Rattle.rtlil_text.specs.declared.doc.DocModule.{DocModule}
use Rattle.net_draft.specs.Drafts.{AreDrafted, IsDrafted}

-- with the documents of the modules that are left, these are the documents of all
pub Completes : Library → List Module → List Module → List DocModule → Type 0
Completes lib all left written = (ds : List DocModule) → AreDrafted lib left ds → AreDrafted lib all (written ++ ds)

pub begin : (lib : Library) (all : List Module) → Completes lib all all []
unfolding Completes
begin lib all ds h = h

pub next : (lib : Library) (all : List Module) (m : Module) (ms : List Module) (written : List DocModule) (d : DocModule) → Completes lib all (m ∷ ms) written → IsDrafted lib m d → Completes lib all ms (written ++ d ∷ [])
unfolding Completes
next lib all m ms written d c i ds h = subst (λ xs. AreDrafted lib all xs) (sym (append_assoc written (d ∷ []) ds)) (c (d ∷ ds) (i, h))

pub end : (lib : Library) (all : List Module) (written : List DocModule) → Completes lib all [] written → AreDrafted lib all written
unfolding Completes
end lib all written c = subst (λ xs. AreDrafted lib all xs) (append-nil written) (c [] tt)
