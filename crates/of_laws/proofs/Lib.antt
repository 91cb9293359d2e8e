mod ActionStructs
mod ActionTails
mod AlwaysThere
mod AnyMessage
mod BucketTails
pub mod BuildingLemmas
pub mod BuiltAgain
mod ByteLemmas
pub mod Chunks
mod ComingBack
pub mod ConfigBack
mod FlowAgain
pub mod FlowsAdded
pub mod Found
pub mod FoundLarge
mod FoundRequests
pub mod FoundSmall
mod FrameValues
pub mod GroupsAdded
mod Heads
pub mod InstructionStructs
mod InstructionTails
mod Items
mod ManyReplyRows
mod MatchTails
mod OneMessage
mod OneReply
mod OneReplyGroup
mod OneReplyRow
mod OneTold
pub mod Only
pub mod OnlyLarge
mod OnlyRequests
pub mod OnlySmall
pub mod Outcomes
pub mod Places
pub mod Present
pub mod Pushing
mod Refusing
mod RefusingFlows
mod RefusingGroups
mod RefusingMessages
mod Senders
pub mod SendingLemmas
pub mod Setting
pub mod StreamMessages
pub mod Tagging
mod Unencoded
mod Widths
pub mod Writings
mod Written
mod WrittenLarge
mod WrittenReplies
mod WrittenReplyGroups
mod WrittenReplyRows
pub mod WrittenRequests
mod WrittenTold
