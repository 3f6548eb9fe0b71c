-- SPDX-License-Identifier: MIT OR Apache-2.0
pub mod Classes
pub mod Words
pub mod Refusals
pub mod Verdict
pub mod Rules
pub mod Entries
pub mod Steps
pub mod Checks
