-- SPDX-License-Identifier: MIT OR Apache-2.0
pub mod Bags
pub mod Orders
pub mod Polls
pub mod Positions
pub mod Turns
